-- When a statement is true in the model.
use Rattle.pm_logic.specs.declared.formula.Formula.TheVariants.{Pure as Fact}
use Rattle.pm_logic.specs.declared.formula.Pure.TheVariants.{True}
use Rattle.pm_logic.specs.declared.formula.Preds.{Preds}
use Rattle.pm_model.specs.Entailment.{IsTrueEntailment}
use Rattle.pm_check.specs.declared.checked.Statement.{Statement}

-- truth entails the statement's formula, in no variables
abbrev pub IsTrueStatement : Preds → Statement → Type 0
IsTrueStatement preds s = IsTrueEntailment preds 0 (Fact True) s.formula
