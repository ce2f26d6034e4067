use Rattle.pm_star.proofs.Leveling.{both_closed}
use Rattle.pm_star.proofs.levels.both_step.Goals as goal

pub returns : goal.returns
returns c = both_closed c.args.vars c.args.x.now c.args.rest.now c.args.p.now c.args.q.now c.in_ok-doubled.doubled c.in_ok-step.step c.fill.result c.in_ok-doubled.ensures c.in_ok-step.ensures c.fill.ensures.proves
