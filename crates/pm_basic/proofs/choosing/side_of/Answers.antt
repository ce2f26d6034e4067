use Rattle.std.proofs.Common.{sym, ◌∙◌, ap₂}
use Rattle.pm_logic.specs.declared.formula.Formula.TheViews as view
use Rattle.pm_basic.proofs.Choices.{formula_or, formula_no_or}
use Rattle.pm_basic.proofs.choosing.side_of.Goals as goal

pub returns-in_ok-entry-in-Or : goal.returns-in_ok-entry-in-Or
returns-in_ok-entry-in-Or c = formula_or c.args.vars c.args.first c.args.concl.now c.get.result.now c.get-in-Or.result.now c.in_ok-entry-in-Or.entry (c.in-Or.is ∙ ap₂ view.Or (sym c.get.ensures) (sym c.get-in-Or.ensures)) c.in_ok-entry-in-Or.ensures

pub returns-in_default : goal.returns-in_default
returns-in_default c = formula_no_or c.args.vars c.args.first c.args.concl.now c.in_default.not-Or c.in_default.not-Pure
