use Rattle.std.proofs.Common.{arith}
use Rattle.pm_basic.proofs.Endings.{side_suffices, side_done, side_refused}
use Rattle.pm_basic.proofs.choosing.side.Goals as goal

pub conclude-requires-clause-proof : goal.conclude-requires-clause-proof
conclude-requires-clause-proof c = side_suffices c.len-vars.result c.args.work.now c.args.left _ c.in-Some.entry c.len-vars.ensures c.in-Some.is c.in_ok-entry.ensures

pub returns-in-Some : goal.returns-in-Some
returns-in-Some c = side_done c.len-vars.result c.args.work.now c.args.left _ c.in-Some.entry c.conclude.result c.requires.nothing c.len-vars.ensures c.in-Some.is c.in_ok-entry.ensures c.conclude.ensures

pub returns-in-None : goal.returns-in-None
returns-in-None c = side_refused c.len-vars.result c.args.work.now c.args.left _ c.refuse_plain.result c.requires.nothing c.len-vars.ensures c.in-None.is c.in_ok-entry.ensures c.refuse_plain.ensures

pub conclude-requires-clause-few : goal.conclude-requires-clause-few
conclude-requires-clause-few c = omega (arith, c.requires.handed.few)
