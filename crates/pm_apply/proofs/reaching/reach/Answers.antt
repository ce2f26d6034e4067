use Rattle.pm_apply.proofs.Onward.{at_once_answers}
use Rattle.pm_apply.proofs.reaching.reach.Goals as goal

pub returns-then-same : goal.returns-then-same
returns-then-same c = at_once_answers c.args.vars c.args.whole.now c.args.shared.now c.args.concl.now c.args.r.now c.in_ok-made.made (c.same.ensures.0 c.if-same.true) c.in_ok-made.ensures
