-- Each rule is sound, and falsehood isn't true.
use Rattle.pm_logic.specs.declared.formula.Formula.TheVariants.{Pure as Fact}
use Rattle.pm_logic.specs.declared.formula.Pure.TheVariants as pure
use Rattle.pm_logic.specs.declared.formula.Preds.{Preds}
use Rattle.pm_logic.specs.Trees.{Later}
use Rattle.pm_model.specs.Entailment.{IsTrueEntailment}
use Rattle.pm_rules.specs.declared.rules.Rule.{Rule}
use Rattle.pm_sound.specs.Truth.{IsSound}

-- Every rule of the table is sound.
abbrev pub AllAreSound : Type 0
AllAreSound = (rule : Rule) → IsSound rule

-- From truth neither falsehood nor falsehood one step later is true, in no variables.
pub record IsConsistent (preds : Preds) : Type 0 where
  pub now : ¬ IsTrueEntailment preds 0 (Fact pure.True) (Fact pure.False)
  pub later : ¬ IsTrueEntailment preds 0 (Fact pure.True) (Later (Fact pure.False))

abbrev pub TablesAreConsistent : Type 0
TablesAreConsistent = (preds : Preds) → IsConsistent preds
