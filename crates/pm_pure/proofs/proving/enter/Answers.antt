use Rattle.std.proofs.Common.{arith}
use Rattle.pm_pure.proofs.Facts.{entered, first_vars, first_meets, second_vars, second_meets}
use Rattle.pm_pure.proofs.proving.enter.Goals as goal

pub to_facts-requires-clause-few : goal.to_facts-requires-clause-few
to_facts-requires-clause-few c = omega (arith, c.requires.handed.few)

pub compose-requires-clause-vars : goal.compose-requires-clause-vars
compose-requires-clause-vars c = first_vars c.args.work.now c.args.entry c.in_ok-new.new c.in_ok-first.first c.in_ok-wanted.wanted c.in_ok-wanted.wanted c.requires.entry c.in_ok-new.ensures c.in_ok-first.ensures c.in_ok-wanted.ensures

pub compose-requires-clause-meet : goal.compose-requires-clause-meet
compose-requires-clause-meet c = first_meets c.args.work.now c.args.entry c.in_ok-new.new c.in_ok-first.first c.in_ok-wanted.wanted c.in_ok-wanted.wanted c.requires.entry c.in_ok-new.ensures c.in_ok-first.ensures c.in_ok-wanted.ensures

pub compose-requires-2-clause-vars : goal.compose-requires-2-clause-vars
compose-requires-2-clause-vars c = second_vars c.args.work.now c.args.entry c.in_ok-new.new c.in_ok-first.first c.in_ok-wanted.wanted c.in_ok-shown.shown c.requires.entry c.in_ok-new.ensures c.in_ok-first.ensures c.in_ok-wanted.ensures c.in_ok-shown.ensures.follows.concludes

pub compose-requires-2-clause-meet : goal.compose-requires-2-clause-meet
compose-requires-2-clause-meet c = second_meets c.args.work.now c.args.entry c.in_ok-new.new c.in_ok-first.first c.in_ok-wanted.wanted c.in_ok-shown.shown c.requires.entry c.in_ok-new.ensures c.in_ok-first.ensures c.in_ok-wanted.ensures c.in_ok-shown.ensures.follows.concludes

pub returns : goal.returns
returns c =
    entered c.args.work.now c.args.entry c.in_ok-new.new c.in_ok-first.first c.in_ok-wanted.wanted c.in_ok-shown.shown c.in_ok-proof.proof c.finish_one.result c.requires.entry c.in_ok-new.ensures c.in_ok-first.ensures c.in_ok-wanted.ensures c.in_ok-shown.ensures.proves c.in_ok-proof.ensures.proves c.finish_one.ensures
