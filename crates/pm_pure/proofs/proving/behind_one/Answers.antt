use Rattle.pm_star.proofs.Leveling.{behind_done}
use Rattle.pm_pure.proofs.proving.behind_one.Goals as goal

pub returns : goal.returns
returns c = behind_done c.args.vars c.args.part.now c.conclusion-e.result.now c.args.inner c.in_ok-step.step c.fill.result c.conclusion-e.ensures c.requires c.in_ok-step.ensures c.fill.ensures.extends
