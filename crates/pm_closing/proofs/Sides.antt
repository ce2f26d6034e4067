-- Whether a conclusion says that a term is equal to itself.
use Rattle.std.proofs.Common.{◌≡◌, ◌↔◌, Bool, true, false, refl, ap, sym, ◌∙◌}
use Rattle.std.specs.Prelude.{IsTrue}
use Rattle.std.proofs.lemmas.Bool.Decides.{same_from_decides}
use Rattle.pm_logic.specs.declared.formula.Term.{Term}
use Rattle.pm_logic.specs.declared.formula.Pure.{Pure}
use Rattle.pm_logic.specs.declared.formula.Pure.TheVariants.{Eq}
use Rattle.pm_logic.specs.declared.formula.Formula.{Formula}
use Rattle.pm_logic.specs.declared.formula.Formula.TheVariants.{Pure as Assert}
use Rattle.pm_logic.specs.Abstraction.{term_eq}
use Rattle.pm_logic.proofs.Equals.{term_eq_decides}
use Rattle.pm_table.specs.Basic.{is_reflexive}

pub not_pure : (c : Formula) → ((p : Pure) → c ≡ Assert p → ⊥) → is_reflexive c ≡ false
not_pure (Assert p) never = absurd (never p refl)
not_pure _ never = refl

pub no_equation : (p : Pure) → ((s t : Term) → p ≡ Eq s t → ⊥) → is_reflexive (Assert p) ≡ false
no_equation (Eq s t) never = absurd (never s t refl)
no_equation _ never = refl

pub equal_found : (p : Pure) (s t : Term) (same : Bool) → p ≡ Eq s t → IsTrue same ↔ (s ≡ t) → same ≡ true → (is_reflexive (Assert p) ≡ true) × (p ≡ Eq s s)
equal_found p s t same is told holds =
    let e : s ≡ t = told.0 holds in
    (ap (λ q. is_reflexive (Assert q)) is ∙ (term_eq_decides s t).1 e, is ∙ ap (Eq s) (sym e))

pub equal_other : (p : Pure) (s t : Term) (same : Bool) → p ≡ Eq s t → IsTrue same ↔ (s ≡ t) → same ≡ false → is_reflexive (Assert p) ≡ false
equal_other p s t same is told fails = ap (λ q. is_reflexive (Assert q)) is ∙ (sym (same_from_decides same (term_eq s t) told (term_eq_decides s t)) ∙ fails)

pub term_found : (c : Formula) (p : Pure) (t : Term) → c ≡ Assert p → is_reflexive (Assert p) ≡ true → p ≡ Eq t t → (is_reflexive c ≡ true) × (c ≡ Assert (Eq t t))
term_found c p t is holds e = (ap is_reflexive is ∙ holds, is ∙ ap Assert e)

pub term_nowhere : (c : Formula) (p : Pure) → c ≡ Assert p → is_reflexive (Assert p) ≡ false → is_reflexive c ≡ false
term_nowhere c p is fails = ap is_reflexive is ∙ fails
