-- A persistent formula entails its box.
use Rattle.std.proofs.Common.{◌≡◌, ℕ, ◌+◌, ◌*◌, cond, [], ◌∷◌, sym, ap, subst, arith, Option, Some, None}
use Rattle.pm_logic.specs.declared.formula.Formula.{Formula}
use Rattle.pm_logic.specs.declared.formula.Formula.TheViews as view
use Rattle.pm_logic.specs.Trees.{Pers}
use Rattle.pm_logic.specs.Classes.{IsPersistent}
use Rattle.pm_logic.specs.Size.{depth_of, nodes_of}
use Rattle.pm_logic.proofs.Views.{view_pers}
use Rattle.pm_proof.specs.Trees.{Tree, entail}
use Rattle.pm_proof.specs.Known.{Proves, Every}
use Rattle.pm_proof.proofs.Fills.{weaker}
use Rattle.pm_schemes.specs.Sketches.{deepest}
use Rattle.pm_classes.specs.declared.entry.One.{One}
use Rattle.pm_classes.specs.Classes.{into_persistent}
use Rattle.pm_classes.specs.Entries.{HasProof, PersistentAnswer, OneAnswers, persistent_says}
use Rattle.pm_classes.proofs.Table.{persistent_is}
use Rattle.pm_classes.proofs.Sizes.{depth_pers, nodes_pers}

-- one that isn't a box is its own entry
into_own : (a : Formula) → IsPersistent a → ((g : Formula) → a ≡ view.Pers g → ⊥) → into_persistent a ≡ Some a
unfolding into_persistent
into_own (Pers g) p n = absurd (n g (sym (view_pers g)))
into_own a p n = ap (λ x. cond x (Some a) None) (persistent_is a p)

pub own_proof : (k : ℕ) (a : Formula) (r : One) → IsPersistent a → ((g : Formula) → a ≡ view.Pers g → ⊥) → PersistentAnswer k a (Some r) → HasProof k a (entail k a (view.Pers a)) r.proof
own_proof k a r p n ans =
    let one : OneAnswers (persistent_says k a) k a (Some a) (Some r) = subst (λ (o : Option Formula). OneAnswers (persistent_says k a) k a o (Some r)) (into_own a p n) ans in
    one.proof

pub own_some : (k : ℕ) (a : Formula) → IsPersistent a → ((g : Formula) → a ≡ view.Pers g → ⊥) → PersistentAnswer k a None → ⊥
own_some k a p n ans = subst (λ (o : Option Formula). OneAnswers (persistent_says k a) k a o None) (into_own a p n) ans

pub own_boxed : (k : ℕ) (a g : Formula) (t : Tree) → a ≡ view.Pers g → Proves Every (entail k (view.Pers g) (view.Pers (view.Pers g))) [] 1 (deepest (g ∷ []) [] + 2) k t → HasProof k a (entail k a (view.Pers a)) t
own_boxed k a g t is p =
    let f = view.Pers g in
    let e = entail k f (view.Pers f) in
    subst (λ (x : Formula). HasProof k x (entail k x (view.Pers x)) t) (sym is)
    (weaker Every e [] 1 (deepest (g ∷ []) [] + 2) k (200 * nodes_of f) (depth_of f + 8) (k + depth_of f) t (omega (arith, nodes_pers g)) (omega (arith, depth_pers g)) (omega arith) p)
