use Rattle.std.proofs.Common.{sym, ◌∙◌, ap₂}
use Rattle.pm_logic.specs.declared.formula.Pure.TheViews as pure_view
use Rattle.pm_basic.proofs.Splits.{pure_both, pure_no_both}
use Rattle.pm_basic.proofs.splitting.halves_of_pure.Goals as goal

pub returns-in_ok-entry-in-And : goal.returns-in_ok-entry-in-And
returns-in_ok-entry-in-And c = pure_both c.args.vars c.args.fact.now c.get.result.now c.get-in-And.result.now c.in_ok-entry-in-And.entry (c.in-And.is ∙ ap₂ pure_view.And (sym c.get.ensures) (sym c.get-in-And.ensures)) c.in_ok-entry-in-And.ensures

pub returns-in_default : goal.returns-in_default
returns-in_default c = pure_no_both c.args.vars c.args.fact.now c.in_default.not-And
