use Rattle.pm_star.proofs.Pairs.{two_for}
use Rattle.pm_star.proofs.pairing.two_for.Goals as goal

pub returns : goal.returns
returns c = two_for c.args.vars c.args.x.now c.args.rest.now c.args.first.now c.args.second.now c.args.by c.in_ok-step.step c.fill.result c.requires c.in_ok-step.ensures c.fill.ensures.extends
