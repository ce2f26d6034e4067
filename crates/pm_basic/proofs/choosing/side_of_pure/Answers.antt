use Rattle.std.proofs.Common.{sym, ◌∙◌, ap₂}
use Rattle.pm_logic.specs.declared.formula.Pure.TheViews as pure_view
use Rattle.pm_basic.proofs.Choices.{pure_or, pure_no_or}
use Rattle.pm_basic.proofs.choosing.side_of_pure.Goals as goal

pub returns-in_ok-entry-in-Or : goal.returns-in_ok-entry-in-Or
returns-in_ok-entry-in-Or c = pure_or c.args.vars c.args.first c.args.fact.now c.get.result.now c.get-in-Or.result.now c.in_ok-entry-in-Or.entry (c.in-Or.is ∙ ap₂ pure_view.Or (sym c.get.ensures) (sym c.get-in-Or.ensures)) c.in_ok-entry-in-Or.ensures

pub returns-in_default : goal.returns-in_default
returns-in_default c = pure_no_or c.args.vars c.args.first c.args.fact.now c.in_default.not-Or
