use Rattle.pm_star.proofs.Pairs.{one_for}
use Rattle.pm_star.proofs.pairing.one_for.Goals as goal

pub returns : goal.returns
returns c = one_for c.args.vars c.args.x.now c.args.y.now c.args.rest.now c.conclusion-e.result.now c.args.by c.in_ok-step.step c.fill.result c.conclusion-e.ensures c.requires c.in_ok-step.ensures c.fill.ensures.extends
