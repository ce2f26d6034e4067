use Rattle.pm_closing.proofs.Equal.{term_known}
use Rattle.pm_closing.proofs.reflexive.term_itself.Goals as goal

pub returns : goal.returns
returns c = term_known c.args.vars c.args.t.now c.in_ok-step.step c.in_ok-inner.inner c.fill.result c.in_ok-step.ensures c.in_ok-inner.ensures c.fill.ensures.proves
