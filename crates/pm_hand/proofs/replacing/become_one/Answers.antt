use Rattle.pm_hand.proofs.Relasts.{becomes}
use Rattle.pm_hand.proofs.replacing.become_one.Goals as goal

pub returns : goal.returns
returns c =
    becomes c.args.work.now c.args.held.now c.args.kind c.args.formula c.in_ok-new.new c.args.by c.in_ok-moved.moved c.by_move.result c.requires.last c.requires.says c.in_ok-new.ensures
    c.in_ok-moved.ensures c.by_move.ensures
