use Rattle.pm_star.proofs.UnderBox.{step_closed}
use Rattle.pm_star.proofs.boxing.box_step.Goals as goal

pub returns : goal.returns
returns c = step_closed c.args.vars c.args.x.now c.args.rest.now c.args.y.now c.in_ok-own.own c.in_ok-step.step c.fill.result c.in_ok-own.ensures c.in_ok-step.ensures c.fill.ensures.proves
