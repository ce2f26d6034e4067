use Rattle.pm_hand.proofs.Known.{known_becomes}
use Rattle.pm_hand.proofs.purity.make_known.Goals as goal

pub returns : goal.returns
returns c =
    known_becomes c.args.work.now c.in_ok-new.new c.args.name.now c.args.pure.now c.args.by c.in_ok-proof.proof c.by_move.result c.in_ok-new.ensures c.in_ok-proof.ensures c.by_move.ensures
