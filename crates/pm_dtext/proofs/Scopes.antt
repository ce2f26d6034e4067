-- What is in its range over a table's arities is scoped in the table and has integers of 64 bits, and the other way round.
use Rattle.std.proofs.Common.{◌≡◌, ℕ, zero, suc, List, [], ◌∷◌, length, sym, ap, Some}
use Rattle.std.specs.List.{AllByRecursion}
use Rattle.pm_logic.specs.declared.formula.Term.{Term}
use Rattle.pm_logic.specs.declared.formula.Term.TheVariants.{Lit, Var}
use Rattle.pm_logic.specs.declared.formula.Pure.{Pure}
use Rattle.pm_logic.specs.declared.formula.Pure.TheVariants.{True, False, Eq, Le, Lt}
use Rattle.pm_logic.specs.declared.formula.Formula.{Formula}
use Rattle.pm_logic.specs.declared.formula.Formula.TheVariants.{Pure as Fact, Pts, Call}
use Rattle.pm_logic.specs.declared.formula.Pred.{Pred}
use Rattle.pm_logic.specs.declared.formula.Preds.{Preds}
use Rattle.pm_logic.specs.Trees.{add, sub, neg, scale, both, either, nope, Sep, Wand, And, Or, Imp, All, Ex, Later, Pers, Upd}
use Rattle.pm_logic.specs.Scope.{TermScoped, TermsScoped, PureScoped, ScopedIn, CallFits, CallsFit, Scoped}
use Rattle.pm_logic.specs.Integers.{TermIsI64, TermsAreI64, PureIsI64, FormulaIsI64}
use Rattle.pm_dtext.specs.Ranges.{TermInRange, PureInRange, HasArity, InRange}
use Rattle.pm_dtext.specs.Texts.{arities_of}

term_scoped : (k : ℕ) (t : Term) → TermInRange k t → TermScoped k t
unfolding TermInRange TermScoped
term_scoped k (Lit z) h = tt
term_scoped k (Var i) h = h
term_scoped k (add s t) h = (term_scoped k s h.0, term_scoped k t h.1)
term_scoped k (sub s t) h = (term_scoped k s h.0, term_scoped k t h.1)
term_scoped k (neg t) h = term_scoped k t h
term_scoped k (scale z t) h = term_scoped k t h.1

terms_scoped : (k : ℕ) (ts : List Term) → AllByRecursion (TermInRange k) ts → TermsScoped k ts
unfolding TermsScoped
terms_scoped k [] h = tt
terms_scoped k (t ∷ ts) h = (term_scoped k t h.0, terms_scoped k ts h.1)

pure_scoped : (k : ℕ) (p : Pure) → PureInRange k p → PureScoped k p
unfolding PureInRange PureScoped
pure_scoped k True h = tt
pure_scoped k False h = tt
pure_scoped k (Eq s t) h = (term_scoped k s h.0, term_scoped k t h.1)
pure_scoped k (Le s t) h = (term_scoped k s h.0, term_scoped k t h.1)
pure_scoped k (Lt s t) h = (term_scoped k s h.0, term_scoped k t h.1)
pure_scoped k (both a b) h = (pure_scoped k a h.0, pure_scoped k b h.1)
pure_scoped k (either a b) h = (pure_scoped k a h.0, pure_scoped k b h.1)
pure_scoped k (nope a) h = pure_scoped k a h

call_fits : (preds : List Pred) (p n : ℕ) → HasArity (arities_of preds) p n → CallFits preds p n
call_fits [] p n h = absurd cc
call_fits (q ∷ preds) zero n h = let same : q.arity ≡ n = cc in sym same
call_fits (q ∷ preds) (suc p) n h = call_fits preds p n h

indices : (preds : List Pred) (k : ℕ) (f : Formula) → InRange (arities_of preds) k f → ScopedIn k f
unfolding InRange ScopedIn
indices preds k (Fact a) h = pure_scoped k a h
indices preds k (Sep p q) h = (indices preds k p h.0, indices preds k q h.1)
indices preds k (Wand p q) h = (indices preds k p h.0, indices preds k q h.1)
indices preds k (And p q) h = (indices preds k p h.0, indices preds k q h.1)
indices preds k (Or p q) h = (indices preds k p h.0, indices preds k q h.1)
indices preds k (Imp p q) h = (indices preds k p h.0, indices preds k q h.1)
indices preds k (All p) h = indices preds (suc k) p h
indices preds k (Ex p) h = indices preds (suc k) p h
indices preds k (Later p) h = indices preds k p h
indices preds k (Pers p) h = indices preds k p h
indices preds k (Upd p) h = indices preds k p h
indices preds k (Pts l u v) h = (term_scoped k l h.0, term_scoped k v h.3)
indices preds k (Call p ts) h = terms_scoped k ts h.1

calls : (preds : List Pred) (k : ℕ) (f : Formula) → InRange (arities_of preds) k f → CallsFit preds f
unfolding InRange CallsFit
calls preds k (Fact a) h = tt
calls preds k (Sep p q) h = (calls preds k p h.0, calls preds k q h.1)
calls preds k (Wand p q) h = (calls preds k p h.0, calls preds k q h.1)
calls preds k (And p q) h = (calls preds k p h.0, calls preds k q h.1)
calls preds k (Or p q) h = (calls preds k p h.0, calls preds k q h.1)
calls preds k (Imp p q) h = (calls preds k p h.0, calls preds k q h.1)
calls preds k (All p) h = calls preds (suc k) p h
calls preds k (Ex p) h = calls preds (suc k) p h
calls preds k (Later p) h = calls preds k p h
calls preds k (Pers p) h = calls preds k p h
calls preds k (Upd p) h = calls preds k p h
calls preds k (Pts l u v) h = (h.1, h.2)
calls preds k (Call p ts) h = call_fits preds p (length ts) h.0

pub is_scoped : (preds : Preds) (k : ℕ) (f : Formula) → InRange (arities_of preds.list) k f → Scoped preds k f
is_scoped preds k f h = record { indices = indices preds.list k f h; calls = calls preds.list k f h }

-- ---- the integers have 64 bits

term_integers : (k : ℕ) (t : Term) → TermInRange k t → TermIsI64 t
unfolding TermInRange TermIsI64
term_integers k (Lit z) h = h
term_integers k (Var i) h = tt
term_integers k (add s t) h = (term_integers k s h.0, term_integers k t h.1)
term_integers k (sub s t) h = (term_integers k s h.0, term_integers k t h.1)
term_integers k (neg t) h = term_integers k t h
term_integers k (scale z t) h = (h.0, term_integers k t h.1)

terms_integers : (k : ℕ) (ts : List Term) → AllByRecursion (TermInRange k) ts → TermsAreI64 ts
unfolding TermsAreI64
terms_integers k [] h = tt
terms_integers k (t ∷ ts) h = (term_integers k t h.0, terms_integers k ts h.1)

pure_integers : (k : ℕ) (p : Pure) → PureInRange k p → PureIsI64 p
unfolding PureInRange PureIsI64
pure_integers k True h = tt
pure_integers k False h = tt
pure_integers k (Eq s t) h = (term_integers k s h.0, term_integers k t h.1)
pure_integers k (Le s t) h = (term_integers k s h.0, term_integers k t h.1)
pure_integers k (Lt s t) h = (term_integers k s h.0, term_integers k t h.1)
pure_integers k (both a b) h = (pure_integers k a h.0, pure_integers k b h.1)
pure_integers k (either a b) h = (pure_integers k a h.0, pure_integers k b h.1)
pure_integers k (nope a) h = pure_integers k a h

pub has_integers : (preds : List Pred) (k : ℕ) (f : Formula) → InRange (arities_of preds) k f → FormulaIsI64 f
unfolding InRange FormulaIsI64
has_integers preds k (Fact a) h = pure_integers k a h
has_integers preds k (Sep p q) h = (has_integers preds k p h.0, has_integers preds k q h.1)
has_integers preds k (Wand p q) h = (has_integers preds k p h.0, has_integers preds k q h.1)
has_integers preds k (And p q) h = (has_integers preds k p h.0, has_integers preds k q h.1)
has_integers preds k (Or p q) h = (has_integers preds k p h.0, has_integers preds k q h.1)
has_integers preds k (Imp p q) h = (has_integers preds k p h.0, has_integers preds k q h.1)
has_integers preds k (All p) h = has_integers preds (suc k) p h
has_integers preds k (Ex p) h = has_integers preds (suc k) p h
has_integers preds k (Later p) h = has_integers preds k p h
has_integers preds k (Pers p) h = has_integers preds k p h
has_integers preds k (Upd p) h = has_integers preds k p h
has_integers preds k (Pts l u v) h = (term_integers k l h.0, term_integers k v h.3)
has_integers preds k (Call p ts) h = terms_integers k ts h.1

-- ---- and the other way round

term_in_range : (k : ℕ) (t : Term) → TermScoped k t → TermIsI64 t → TermInRange k t
unfolding TermScoped TermIsI64 TermInRange
term_in_range k (Lit z) s i = i
term_in_range k (Var x) s i = s
term_in_range k (add a b) s i = (term_in_range k a s.0 i.0, term_in_range k b s.1 i.1)
term_in_range k (sub a b) s i = (term_in_range k a s.0 i.0, term_in_range k b s.1 i.1)
term_in_range k (neg a) s i = term_in_range k a s i
term_in_range k (scale z a) s i = (i.0, term_in_range k a s i.1)

terms_in_range : (k : ℕ) (ts : List Term) → TermsScoped k ts → TermsAreI64 ts → AllByRecursion (TermInRange k) ts
unfolding TermsScoped TermsAreI64
terms_in_range k [] s i = tt
terms_in_range k (t ∷ ts) s i = (term_in_range k t s.0 i.0, terms_in_range k ts s.1 i.1)

pure_in_range : (k : ℕ) (p : Pure) → PureScoped k p → PureIsI64 p → PureInRange k p
unfolding PureScoped PureIsI64 PureInRange
pure_in_range k True s i = tt
pure_in_range k False s i = tt
pure_in_range k (Eq a b) s i = (term_in_range k a s.0 i.0, term_in_range k b s.1 i.1)
pure_in_range k (Le a b) s i = (term_in_range k a s.0 i.0, term_in_range k b s.1 i.1)
pure_in_range k (Lt a b) s i = (term_in_range k a s.0 i.0, term_in_range k b s.1 i.1)
pure_in_range k (both a b) s i = (pure_in_range k a s.0 i.0, pure_in_range k b s.1 i.1)
pure_in_range k (either a b) s i = (pure_in_range k a s.0 i.0, pure_in_range k b s.1 i.1)
pure_in_range k (nope a) s i = pure_in_range k a s i

has_arity : (preds : List Pred) (p n : ℕ) → CallFits preds p n → HasArity (arities_of preds) p n
has_arity [] p n h = absurd h
has_arity (q ∷ preds) zero n h = ap Some (sym h)
has_arity (q ∷ preds) (suc p) n h = has_arity preds p n h

in_range : (preds : List Pred) (k : ℕ) (f : Formula) → ScopedIn k f → CallsFit preds f → FormulaIsI64 f → InRange (arities_of preds) k f
unfolding ScopedIn CallsFit FormulaIsI64 InRange
in_range preds k (Fact a) s c i = pure_in_range k a s i
in_range preds k (Sep p q) s c i = (in_range preds k p s.0 c.0 i.0, in_range preds k q s.1 c.1 i.1)
in_range preds k (Wand p q) s c i = (in_range preds k p s.0 c.0 i.0, in_range preds k q s.1 c.1 i.1)
in_range preds k (And p q) s c i = (in_range preds k p s.0 c.0 i.0, in_range preds k q s.1 c.1 i.1)
in_range preds k (Or p q) s c i = (in_range preds k p s.0 c.0 i.0, in_range preds k q s.1 c.1 i.1)
in_range preds k (Imp p q) s c i = (in_range preds k p s.0 c.0 i.0, in_range preds k q s.1 c.1 i.1)
in_range preds k (All p) s c i = in_range preds (suc k) p s c i
in_range preds k (Ex p) s c i = in_range preds (suc k) p s c i
in_range preds k (Later p) s c i = in_range preds k p s c i
in_range preds k (Pers p) s c i = in_range preds k p s c i
in_range preds k (Upd p) s c i = in_range preds k p s c i
in_range preds k (Pts l u v) s c i = (term_in_range k l s.0 i.0, c.0, c.1, term_in_range k v s.1 i.1)
in_range preds k (Call p ts) s c i = (has_arity preds p (length ts) c, terms_in_range k ts s i)

pub is_in_range : (preds : Preds) (k : ℕ) (f : Formula) → Scoped preds k f → FormulaIsI64 f → InRange (arities_of preds.list) k f
is_in_range preds k f s i = in_range preds.list k f s.indices s.calls i
