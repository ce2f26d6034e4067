-- Longer tables.
use Rattle.std.proofs.Common.{◌≡◌, ℕ, zero, suc, List, [], ◌∷◌, ◌++◌, append_assoc, refl, sym, ◌∙◌, ap, subst, Some}
use Rattle.std.specs.Prelude.{slice_get}
use Rattle.pm_logic.specs.declared.formula.Formula.{Formula}
use Rattle.pm_logic.specs.declared.formula.Formula.TheVariants.{Pure as Fact, Pts, Call}
use Rattle.pm_logic.specs.declared.formula.Pred.{Pred}
use Rattle.pm_logic.specs.declared.formula.Preds.{Preds}
use Rattle.pm_logic.specs.Trees.{Sep, Wand, And, Or, Imp, All, Ex, Later, Pers, Upd}
use Rattle.pm_logic.specs.Scope.{Scoped}
use Rattle.pm_dtext.specs.Ranges.{InRange}
use Rattle.pm_dtext.specs.Texts.{arities_of}
use Rattle.pm_dtext.proofs.Scopes.{is_scoped}
use Rattle.pm_proof.specs.Known.{From, IsAmong}

get_kept : (xs more : List ℕ) (x k : ℕ) → slice_get xs k ≡ Some x → slice_get (xs ++ more) k ≡ Some x
get_kept [] more x k at = absurd cc
get_kept (y ∷ xs) more x zero at = at
get_kept (y ∷ xs) more x (suc k) at = get_kept xs more x k at

-- what is over a table is over each that has more predicates at its end
pub range_kept : (arities more : List ℕ) (k : ℕ) (f : Formula) → InRange arities k f → InRange (arities ++ more) k f
unfolding InRange
range_kept arities more k (Fact a) h = h
range_kept arities more k (Sep p q) h = (range_kept arities more k p h.0, range_kept arities more k q h.1)
range_kept arities more k (Wand p q) h = (range_kept arities more k p h.0, range_kept arities more k q h.1)
range_kept arities more k (And p q) h = (range_kept arities more k p h.0, range_kept arities more k q h.1)
range_kept arities more k (Or p q) h = (range_kept arities more k p h.0, range_kept arities more k q h.1)
range_kept arities more k (Imp p q) h = (range_kept arities more k p h.0, range_kept arities more k q h.1)
range_kept arities more k (All p) h = range_kept arities more (suc k) p h
range_kept arities more k (Ex p) h = range_kept arities more (suc k) p h
range_kept arities more k (Later p) h = range_kept arities more k p h
range_kept arities more k (Pers p) h = range_kept arities more k p h
range_kept arities more k (Upd p) h = range_kept arities more k p h
range_kept arities more k (Pts l u v) h = h
range_kept arities more k (Call p ts) h = (get_kept arities more _ p h.0, h.1)

arities_joined : (preds more : List Pred) → arities_of preds ++ arities_of more ≡ arities_of (preds ++ more)
arities_joined [] more = refl
arities_joined (q ∷ preds) more = ap (λ xs. q.arity ∷ xs) (arities_joined preds more)

-- and scoped there
pub scoped_longer : (base preds : Preds) (k : ℕ) (f : Formula) → IsAmong (From base) preds → InRange (arities_of base.list) k f → Scoped preds k f
scoped_longer base preds k f among h =
    let longer : InRange (arities_of preds.list) k f = subst (λ (ns : List ℕ). InRange ns k f) (arities_joined base.list among.0 ∙ ap arities_of (sym among.1)) (range_kept (arities_of base.list) (arities_of among.0) k f h) in
    is_scoped preds k f longer

-- a table that comes after one predicate more comes after those before it
pub among_before : (base : List Pred) (q : Pred) (preds : Preds) → IsAmong (From (record { list = base ++ q ∷ [] })) preds → IsAmong (From (record { list = base })) preds
among_before base q preds among = (q ∷ among.0, among.1 ∙ append_assoc base (q ∷ []) among.0)
