use Rattle.pm_print.proofs.Named.{bound_word}
use Rattle.pm_print.proofs.names.add_variable.Goals as goal

pub returns-then-index-binders : goal.returns-then-index-binders
returns-then-index-binders c = rw (bound_word c.args.binders c.args.index c.args.vars.now c.if-index-binders.true) c.add_binder.ensures
