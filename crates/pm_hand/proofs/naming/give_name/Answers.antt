use Rattle.pm_hand.specs.Changed.{named}
use Rattle.pm_hand.proofs.Names.{moved_gives}
use Rattle.pm_hand.proofs.naming.give_name.Goals as goal

pub returns : goal.returns
returns c =
    moved_gives c.args.work.now (named c.args.work.now c.args.held.now c.args.name.now) c.in_ok-new.new c.in_ok-moved.moved c.by_move.result c.in_ok-new.ensures c.in_ok-moved.ensures
    c.by_move.ensures
