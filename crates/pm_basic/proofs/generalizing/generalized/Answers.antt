use Rattle.pm_basic.proofs.Generals.{same_vars, they_meet, general_done}
use Rattle.pm_basic.proofs.generalizing.generalized.Goals as goal

pub compose-requires-clause-vars : goal.compose-requires-clause-vars
compose-requires-clause-vars c = same_vars c.args.index c.args.work.now c.args.new.now c.requires.handed c.requires.loses c.in_ok-first.first c.in_ok-second.second c.in_ok-first.ensures c.in_ok-second.ensures

pub compose-requires-clause-meet : goal.compose-requires-clause-meet
compose-requires-clause-meet c = they_meet c.args.index c.args.work.now c.args.new.now c.requires.handed c.requires.loses c.in_ok-first.first c.in_ok-second.second c.in_ok-first.ensures c.in_ok-second.ensures

pub returns : goal.returns
returns c = general_done c.args.index c.args.work.now c.args.new.now c.requires.handed c.requires.loses c.in_ok-first.first c.in_ok-second.second c.in_ok-first.ensures c.in_ok-second.ensures c.in_ok-proof.proof c.in_ok-proof.ensures.proves
