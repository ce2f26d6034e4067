-- The introduction for a pattern that names a variable: of that variable where the conclusion is a universal, else of a left side.
use Rattle.std.proofs.Common.{◌≡◌, ℕ, true, false, [], ◌∷◌, sym, ◌∙◌, ap, Option, Some, None, is_some}
use Rattle.std.specs.Prelude.{Result}
use Rattle.pm_logic.specs.declared.formula.Formula.{Formula}
use Rattle.pm_logic.specs.declared.formula.Formula.TheViews as view
use Rattle.pm_logic.specs.Trees.{All}
use Rattle.pm_logic.proofs.Views.{view_all}
use Rattle.pm_goal.specs.declared.work.Work.{Work}
use Rattle.pm_goal.specs.declared.refusal.StepFault.{StepFault}
use Rattle.pm_proof.specs.declared.proof.Parts.{Parts}
use Rattle.pm_table.specs.declared.place.Place.{Place}
use Rattle.pm_table.specs.Limits.{limited}
use Rattle.pm_table.specs.Works.{Named}
use Rattle.pm_table.specs.Introductions.{intro_all, intro_hyp, universal_of}
use Rattle.pm_table.specs.Patterns.{outcome_with, opening, intro_var_or_hyp}
use Rattle.pm_action.specs.Acting.{Answers}

pub universal : (f b : Formula) → f ≡ view.All b → true ≡ is_some (universal_of f)
universal f b e = sym (ap (λ a. is_some (universal_of a)) (e ∙ view_all b))

module _ (s : ℕ) (w : Work) (x : Named) (r : Result (Parts Place) StepFault) where
  with_some : (o : Option Formula) → is_some o ≡ true → Answers s w (limited (outcome_with (false ∷ []) (intro_all x w))) r → Answers s w (limited (intro_var_or_hyp (Some x) o w)) r
  with_some (Some b) e answer = answer
  with_some None e answer = absurd cc

  with_none : (o : Option Formula) → is_some o ≡ false → Answers s w (limited (opening (true ∷ []) intro_hyp w)) r → Answers s w (limited (intro_var_or_hyp (Some x) o w)) r
  with_none (Some b) e answer = absurd cc
  with_none None e answer = answer

  pub named_variable : is_some (universal_of w.goal.concl) ≡ true → Answers s w (limited (outcome_with (false ∷ []) (intro_all x w))) r → Answers s w (limited (intro_var_or_hyp (Some x) (universal_of w.goal.concl) w)) r
  named_variable e answer = with_some (universal_of w.goal.concl) e answer

  pub named_left_side : is_some (universal_of w.goal.concl) ≡ false → Answers s w (limited (opening (true ∷ []) intro_hyp w)) r → Answers s w (limited (intro_var_or_hyp (Some x) (universal_of w.goal.concl) w)) r
  named_left_side e answer = with_none (universal_of w.goal.concl) e answer
