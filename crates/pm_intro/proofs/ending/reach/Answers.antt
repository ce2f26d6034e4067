use Rattle.std.proofs.Common.{◌≡◌, ◌+◌, length, arith}
use Rattle.pm_star.specs.Stars.{work_parts}
use Rattle.pm_action.proofs.Heights.{parts_are}
use Rattle.pm_intro.proofs.Entering.{sunk, meet, reaches}
use Rattle.pm_intro.proofs.ending.reach.Goals as goal

pub compose-requires-clause-meet : goal.compose-requires-clause-meet
compose-requires-clause-meet c =
    let place = c.len.result + c.len-2.result + c.len-3.result + c.len-4.result in
    let at : place ≡ length (work_parts c.args.old.now) = omega (arith, parts_are c.args.old.now, c.len.ensures, c.len-2.ensures, c.len-3.ensures, c.len-4.ensures) in
    meet c.args.old.now c.args.new.now c.args.part.now c.in_ok-moved.moved c.in_ok-wanted.wanted c.requires.more (sunk c.args.old.now c.args.part.now c.in_ok-moved.moved place at c.in_ok-moved.ensures) c.in_ok-wanted.ensures

pub returns : goal.returns
returns c =
    let place = c.len.result + c.len-2.result + c.len-3.result + c.len-4.result in
    let at : place ≡ length (work_parts c.args.old.now) = omega (arith, parts_are c.args.old.now, c.len.ensures, c.len-2.ensures, c.len-3.ensures, c.len-4.ensures) in
    reaches c.args.old.now c.args.new.now c.args.part.now c.in_ok-moved.moved c.in_ok-wanted.wanted c.in_ok-proof.proof c.requires.vars c.requires.more (sunk c.args.old.now c.args.part.now c.in_ok-moved.moved place at c.in_ok-moved.ensures) c.in_ok-wanted.ensures c.in_ok-proof.ensures.proves
