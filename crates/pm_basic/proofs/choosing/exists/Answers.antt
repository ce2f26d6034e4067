use Rattle.std.proofs.Common.{arith}
use Rattle.pm_basic.proofs.Endings.{concl_scoped, concl_small, term_fits, exists_suffices, exists_done, exists_refused}
use Rattle.pm_basic.proofs.choosing.exists.Goals as goal

pub conclude-requires-clause-proof : goal.conclude-requires-clause-proof
conclude-requires-clause-proof c = exists_suffices c.len-vars.result c.args.work.now c.args.t.now _ c.in-Some.entry c.len-vars.ensures c.in-Some.is c.in_ok-entry.ensures

pub returns-in-Some : goal.returns-in-Some
returns-in-Some c = exists_done c.len-vars.result c.args.work.now c.args.t.now _ c.in-Some.entry c.conclude.result c.requires.nothing c.len-vars.ensures c.in-Some.is c.in_ok-entry.ensures c.conclude.ensures

pub returns-in-None : goal.returns-in-None
returns-in-None c = exists_refused c.len-vars.result c.args.work.now c.args.t.now _ c.refuse_plain.result c.requires.nothing c.len-vars.ensures c.in-None.is c.in_ok-entry.ensures c.refuse_plain.ensures

pub instance_of-requires-clause-scoped : goal.instance_of-requires-clause-scoped
instance_of-requires-clause-scoped c = concl_scoped c.len-vars.result c.args.work.now c.len-vars.ensures c.requires.handed

pub instance_of-requires-clause-small : goal.instance_of-requires-clause-small
instance_of-requires-clause-small c = concl_small c.len-vars.result c.args.work.now c.len-vars.ensures c.requires.handed

pub instance_of-requires-clause-term : goal.instance_of-requires-clause-term
instance_of-requires-clause-term c = term_fits c.len-vars.result c.args.work.now c.len-vars.ensures c.args.t.now c.requires.fits

pub conclude-requires-clause-few : goal.conclude-requires-clause-few
conclude-requires-clause-few c = omega (arith, c.requires.handed.few)
