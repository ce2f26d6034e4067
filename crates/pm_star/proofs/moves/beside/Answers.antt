use Rattle.pm_star.proofs.Leveling.{beside_done}
use Rattle.pm_star.proofs.moves.beside.Goals as goal

pub returns : goal.returns
returns c = beside_done c.args.vars c.args.rest.now c.conclusion-e.result.now c.args.by c.in_ok-step.step c.fill.result c.conclusion-e.ensures c.requires c.in_ok-step.ensures c.fill.ensures.extends
