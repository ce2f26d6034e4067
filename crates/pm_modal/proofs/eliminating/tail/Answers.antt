use Rattle.pm_modal.proofs.Elims.{tail_meets, tail_known}
use Rattle.pm_modal.proofs.eliminating.tail.Goals as goal

pub compose-requires-clause-meet : goal.compose-requires-clause-meet
compose-requires-clause-meet c = tail_meets c.args.rest.now c.args.b.now c.count.result c.in_ok-new.new c.in_ok-sunk.sunk c.in_ok-wanted.wanted c.count.ensures c.in_ok-new.ensures c.in_ok-wanted.ensures c.in_ok-sunk.ensures

pub returns : goal.returns
returns c =
    tail_known c.args.rest.now c.args.b.now c.count.result c.in_ok-new.new c.in_ok-sunk.sunk c.in_ok-wanted.wanted c.in_ok-proof.proof c.count.ensures c.in_ok-new.ensures c.in_ok-wanted.ensures c.in_ok-sunk.ensures
    c.in_ok-proof.ensures.proves
