-- What goals mean, and which are within the limits.
use Rattle.std.specs.Prelude.{ℕ, ◌≤◌, List, length}
use Rattle.pm_logic.specs.declared.limits.TheConstants.{MAX_HYPOTHESES, MAX_LEVELS, MAX_VARIABLES}
use Rattle.pm_logic.specs.declared.formula.Preds.{Preds}
use Rattle.pm_rules.specs.declared.rules.Entail.{Entail}
use Rattle.pm_goal.specs.declared.goal.Goal.{Goal}
use Rattle.pm_proof.specs.Valid.{EntailScoped}
use Rattle.pm_table.specs.Limits.{formulas, greatest_depth, resting}
use Rattle.pm_action.specs.Meanings as works
use Rattle.pm_run.specs.Rows.{held}

-- in its variables, the star of its contexts entails its conclusion
abbrev pub meaning : Goal → Entail
meaning goal = works.meaning (resting goal)

-- the goal is within the limits, and scoped in its variables and some table
pub record IsWithin (goal : Goal) : Type 0 where
  pub vars : length goal.vars ≤ MAX_VARIABLES
  pub few : held goal ≤ MAX_HYPOTHESES
  pub shallow : greatest_depth (formulas goal) ≤ MAX_LEVELS
  pub preds : Preds
  pub scoped : EntailScoped preds (meaning goal)
