use Rattle.std.proofs.Common.{arith}
use Rattle.pm_basic.proofs.Endings.{exfalso_suffices, exfalso_done}
use Rattle.pm_basic.proofs.choosing.exfalso.Goals as goal

pub conclude-requires-clause-proof : goal.conclude-requires-clause-proof
conclude-requires-clause-proof c = exfalso_suffices c.len-vars.result c.args.work.now c.in_ok-proof.proof c.len-vars.ensures c.in_ok-proof.ensures

pub returns : goal.returns
returns c = exfalso_done c.args.work.now c.conclude.result c.requires.nothing c.conclude.ensures

pub conclude-requires-clause-few : goal.conclude-requires-clause-few
conclude-requires-clause-few c = omega (arith, c.requires.handed.few)
