-- Whether a formula is persistent, as what computes can ask it.
use Rattle.std.specs.Prelude.{Bool, true, false, ◌⊎◌}
use Rattle.std.proofs.Common.{inl, inr}
use Rattle.pm_logic.specs.declared.formula.Formula.{Formula}
use Rattle.pm_logic.specs.declared.formula.Formula.TheVariants.{Pure as Fact, Pts, Call}
use Rattle.pm_logic.specs.Trees.{Sep, Wand, And, Or, Imp, All, Ex, Later, Pers, Upd}
use Rattle.pm_logic.specs.Classes.{IsPersistent}

abbrev pub Decided : Type 0 → Type 0
Decided A = A ⊎ (¬ A)

-- both hold, or one doesn't
abbrev pub both_decided : {A B : Type 0} → Decided A → Decided B → Decided (A × B)
both_decided (inl a) (inl b) = inl (a, b)
both_decided (inl a) (inr n) = inr (λ h. n h.1)
both_decided (inr n) d = inr (λ h. n h.0)

-- each formula is persistent, or isn't
unfoldable pub persistence : (f : Formula) → Decided (IsPersistent f)
unfolding IsPersistent
persistence (Fact a) = inl tt
persistence (Sep a b) = both_decided (persistence a) (persistence b)
persistence (Wand a b) = inr (λ h. h)
persistence (And a b) = both_decided (persistence a) (persistence b)
persistence (Or a b) = both_decided (persistence a) (persistence b)
persistence (Imp a b) = inr (λ h. h)
persistence (All a) = persistence a
persistence (Ex a) = persistence a
persistence (Later a) = persistence a
persistence (Pers a) = inl tt
persistence (Upd a) = inr (λ h. h)
persistence (Pts l u v) = inr (λ h. h)
persistence (Call q args) = inr (λ h. h)

abbrev pub answer : {A : Type 0} → Decided A → Bool
answer (inl a) = true
answer (inr n) = false

abbrev pub is_persistent : Formula → Bool
is_persistent f = answer (persistence f)
