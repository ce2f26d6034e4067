use Rattle.std.proofs.Common.{sym, ◌∙◌, ap}
use Rattle.pm_logic.specs.declared.formula.Formula.TheViews as view
use Rattle.pm_basic.proofs.Choices.{body_scoped, body_small, formula_ex, formula_no_ex}
use Rattle.pm_basic.proofs.choosing.instance_of.Goals as goal

pub instance-requires-clause-scoped : goal.instance-requires-clause-scoped
instance-requires-clause-scoped c = body_scoped c.args.vars c.args.t.now c.args.concl.now c.get.result.now (c.in-Ex.is ∙ ap view.Ex (sym c.get.ensures)) c.requires.scoped

pub instance-requires-clause-small : goal.instance-requires-clause-small
instance-requires-clause-small c = body_small c.args.vars c.args.t.now c.args.concl.now c.get.result.now (c.in-Ex.is ∙ ap view.Ex (sym c.get.ensures)) c.requires.small

pub returns-in_ok-entry-in-Ex : goal.returns-in_ok-entry-in-Ex
returns-in_ok-entry-in-Ex c = formula_ex c.args.vars c.args.t.now c.args.concl.now c.get.result.now c.in_ok-entry-in-Ex.entry (c.in-Ex.is ∙ ap view.Ex (sym c.get.ensures)) c.in_ok-entry-in-Ex.ensures

pub returns-in_default : goal.returns-in_default
returns-in_default c = formula_no_ex c.args.vars c.args.t.now c.args.concl.now c.in_default.not-Ex
