use Rattle.pm_heap.proofs.Updated.{reach_meets, reach_alike, reaches}
use Rattle.pm_heap.proofs.running.reach.Goals as goal

pub compose-requires-clause-vars : goal.compose-requires-clause-vars
compose-requires-clause-vars c = reach_alike c.args.rest.now c.args.new.now c.args.part.now c.args.place c.requires.vars c.requires.more c.in_ok-moved.moved c.in_ok-wanted.wanted c.in_ok-moved.ensures c.in_ok-wanted.ensures

pub compose-requires-clause-meet : goal.compose-requires-clause-meet
compose-requires-clause-meet c = reach_meets c.args.rest.now c.args.new.now c.args.part.now c.args.place c.requires.vars c.requires.more c.in_ok-moved.moved c.in_ok-wanted.wanted c.in_ok-moved.ensures c.in_ok-wanted.ensures

pub returns : goal.returns
returns c = reaches c.args.rest.now c.args.new.now c.args.part.now c.args.place c.requires.vars c.requires.more c.in_ok-moved.moved c.in_ok-wanted.wanted c.in_ok-proof.proof c.in_ok-moved.ensures c.in_ok-wanted.ensures c.in_ok-proof.ensures.proves
