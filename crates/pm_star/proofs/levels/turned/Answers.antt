use Rattle.pm_star.proofs.Leveling.{turned_done}
use Rattle.pm_star.proofs.levels.turned.Goals as goal

pub returns : goal.returns
returns c = turned_done c.args.vars c.args.halves c.conclusion.result.now c.in_ok-step.step c.fill-proof.result c.conclusion.ensures c.requires c.in_ok-step.ensures c.fill-proof.ensures.extends
