-- From a row of shapes to the soundness of its rule.
use Rattle.std.proofs.Common.{◌≡◌, ℕ, zero, suc, ◌+◌, List, [], ◌∷◌, sym, ◌∙◌, arith, subst, subst₂}
use Rattle.std.specs.List.{AllByRecursion}
use Rattle.pm_logic.specs.declared.formula.Formula.{Formula}
use Rattle.pm_logic.specs.declared.formula.Preds.{Preds}
use Rattle.pm_model.specs.Entailment.{IsTrueEntailment}
use Rattle.pm_rules.specs.declared.rules.Entail.{Entail}
use Rattle.pm_rules.specs.declared.rules.Rule.{Rule}
use Rattle.pm_rules.specs.Shapes.{Letters, Sequent, instance}
use Rattle.pm_rules.specs.Rows.{Row, Shapes, Computed, row, frame}
use Rattle.pm_rules.specs.Rules.{HaveVariables, HasShapeOf, AreInstances}
use Rattle.pm_sound.specs.Truth.{IsTrueEntail, IsSound}

-- truth is carried along equal sides
pub along : {preds : Preds} {k : ℕ} {x y x1 y1 : Formula} → x1 ≡ x → y1 ≡ y → IsTrueEntailment preds k x y → IsTrueEntailment preds k x1 y1
along {preds} {k} e d h = subst₂ (λ a b. IsTrueEntailment preds k a b) (sym e) (sym d) h

abbrev IsTrueInstance : Preds → ℕ → Letters → Sequent → Type 0
IsTrueInstance preds k s a = IsTrueEntailment preds k (instance s a.left) (instance s a.right)

abbrev AreTrueInstances : Preds → ℕ → Letters → List Sequent → Type 0
AreTrueInstances preds k s [] = Unit {0}
AreTrueInstances preds k s (a ∷ rest) = IsTrueInstance preds k s a × AreTrueInstances preds k s rest

-- so many more than k, by computation
abbrev higher : ℕ → ℕ → ℕ
higher zero k = k
higher (suc m) k = suc (higher m k)

-- whatever the letters stand for, the premises give the conclusion
abbrev pub IsTrueRow : Row → Type 0
IsTrueRow (Shapes n more given c) = (preds : Preds) (s : Letters) (k : ℕ) → AreTrueInstances preds (higher more k) s given → IsTrueInstance preds k s c
IsTrueRow (Computed n count holds) = ⊥

premises_true : (preds : Preds) (k : ℕ) (s : Letters) (given : List Sequent) (ps : List Entail) → AreInstances s given ps → AllByRecursion (λ (p : Entail). p.vars ≡ k) ps → AllByRecursion (IsTrueEntail preds) ps → AreTrueInstances preds k s given
premises_true preds k s [] ps i v t = tt
premises_true preds k s (a ∷ rest) [] i v t = absurd i
premises_true preds k s (a ∷ rest) (p ∷ ps) i v t =
    let at : IsTrueEntailment preds k p.left p.right = subst (λ (m : ℕ). IsTrueEntailment preds m p.left p.right) v.0 t.0 in
    (along (sym i.0.left_is) (sym i.0.right_is) at, premises_true preds k s rest ps i.1 v.1 t.1)

is_higher : (m k : ℕ) → k + m ≡ higher m k
is_higher zero k = omega arith
is_higher (suc m) k = let a = is_higher m k in omega arith

all_higher : (k m : ℕ) (ps : List Entail) → AllByRecursion (λ (p : Entail). p.vars ≡ k + m) ps → AllByRecursion (λ (p : Entail). p.vars ≡ higher m k) ps
all_higher k m [] v = tt
all_higher k m (p ∷ ps) v = (v.0 ∙ is_higher m k, all_higher k m ps v.1)

of_row : (w : Row) (preds : Preds) (ps : List Entail) (e : Entail) → IsTrueRow w → HaveVariables (frame w) ps e → HasShapeOf w preds ps e → AllByRecursion (IsTrueEntail preds) ps → IsTrueEntail preds e
of_row (Shapes n more given c) preds ps e r v s t =
    along s.conclusion.left_is s.conclusion.right_is (r preds s.letters e.vars (premises_true preds (higher more e.vars) s.letters given ps s.premises (all_higher e.vars more ps v) t))
of_row (Computed n count holds) preds ps e r v s t = absurd r

-- a rule with a true row is sound
pub by_row : (rule : Rule) → IsTrueRow (row rule) → IsSound rule
by_row rule r preds ps e table given scoped t ok = of_row (row rule) preds ps e r ok.variables ok.shape t
