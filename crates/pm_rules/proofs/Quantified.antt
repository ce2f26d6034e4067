-- The rows with a shifted letter, by their equations.
use Rattle.std.proofs.Common.{◌≡◌, ◌↔◌, ℕ, zero, suc, List, [], ◌∷◌, refl, ap, sym, subst, ◌∙◌}
use Rattle.pm_logic.specs.declared.formula.Formula.{Formula}
use Rattle.pm_logic.specs.declared.formula.Pure.TheVariants.{True}
use Rattle.pm_logic.specs.Substitution.{shift_of}
use Rattle.pm_rules.specs.declared.rules.Entail.{Entail}
use Rattle.pm_rules.specs.Shapes.{Letters}
use Rattle.pm_rules.specs.Notation.{◌⊢◌, All, Ex, P, Q, B, P↑, Q↑}
use Rattle.pm_rules.specs.Rules.{HasLetters}
use Rattle.pm_rules.specs.Equations.{IsGeneralized, IsEliminated}

-- the first of the formulas for the letters P and Q, and the second for B
abbrev named : Formula → Formula → ℕ → Formula
named p b zero = p
named p b (suc zero) = p
named p b (suc (suc i)) = b

abbrev letters : Formula → Formula → Letters
letters p b = record { formula = named p b; pure = λ i. True }

generalized_from : (p e : Entail) → IsGeneralized p.left p.right e.left e.right → HasLetters ((P↑ ⊢ B) ∷ []) (P ⊢ All B) (p ∷ []) e
generalized_from p e h = record {
  letters = letters e.left h.b;
  premises = (record { left_is = h.left1_is; right_is = h.right1_is }, tt);
  conclusion = record { left_is = refl; right_is = h.right_is };
}

generalized_to : (p e : Entail) → HasLetters ((P↑ ⊢ B) ∷ []) (P ⊢ All B) (p ∷ []) e → IsGeneralized p.left p.right e.left e.right
generalized_to p e h = record {
  b = h.letters.formula 2;
  left1_is = h.premises.0.left_is ∙ ap shift_of (sym h.conclusion.left_is);
  right1_is = h.premises.0.right_is;
  right_is = h.conclusion.right_is;
}

eliminated_from : (p e : Entail) → IsEliminated p.left p.right e.left e.right → HasLetters ((B ⊢ Q↑) ∷ []) (Ex B ⊢ Q) (p ∷ []) e
eliminated_from p e h = record {
  letters = letters e.right h.b;
  premises = (record { left_is = h.left1_is; right_is = h.right1_is }, tt);
  conclusion = record { left_is = h.left_is; right_is = refl };
}

eliminated_to : (p e : Entail) → HasLetters ((B ⊢ Q↑) ∷ []) (Ex B ⊢ Q) (p ∷ []) e → IsEliminated p.left p.right e.left e.right
eliminated_to p e h = record {
  b = h.letters.formula 2;
  left1_is = h.premises.0.left_is;
  right1_is = h.premises.0.right_is ∙ ap shift_of (sym h.conclusion.right_is);
  left_is = h.conclusion.left_is;
}

pub generalized : (given : List Entail) (p e : Entail) → given ≡ p ∷ [] → IsGeneralized p.left p.right e.left e.right ↔ HasLetters ((P↑ ⊢ B) ∷ []) (P ⊢ All B) given e
generalized given p e is =
    let F : List Entail → Type 0 = λ ps. HasLetters ((P↑ ⊢ B) ∷ []) (P ⊢ All B) ps e in
    (λ h. subst F (sym is) (generalized_from p e h), λ h. generalized_to p e (subst F is h))

pub eliminated : (given : List Entail) (p e : Entail) → given ≡ p ∷ [] → IsEliminated p.left p.right e.left e.right ↔ HasLetters ((B ⊢ Q↑) ∷ []) (Ex B ⊢ Q) given e
eliminated given p e is =
    let F : List Entail → Type 0 = λ ps. HasLetters ((B ⊢ Q↑) ∷ []) (Ex B ⊢ Q) ps e in
    (λ h. subst F (sym is) (eliminated_from p e h), λ h. eliminated_to p e (subst F is h))
