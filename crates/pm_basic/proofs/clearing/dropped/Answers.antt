use Rattle.std.proofs.Common.{arith}
use Rattle.pm_basic.proofs.Cleared.{place_within, dropped_to}
use Rattle.pm_basic.proofs.clearing.dropped.Goals as goal

pub drop_at_held-requires-clause-vars : goal.drop_at_held-requires-clause-vars
drop_at_held-requires-clause-vars c = omega (arith, c.requires.handed.few)

pub drop_at_held-requires-clause-place : goal.drop_at_held-requires-clause-place
drop_at_held-requires-clause-place c = place_within c.args.work.now c.args.name.now c.args.place c.requires.nothing c.requires.handed.apart c.requires.place

pub returns : goal.returns
returns c = dropped_to c.args.work.now c.args.name.now c.args.place c.requires.nothing c.requires.handed.apart c.requires.place c.in_ok-proof.proof c.in_ok-proof.ensures
