use Rattle.std.proofs.Common.{ap, ◌∙◌}
use Rattle.pm_table.specs.Works.{hold}
use Rattle.pm_hand.specs.Changed.{less}
use Rattle.pm_hand.proofs.Names.{moved_gives}
use Rattle.pm_hand.proofs.taking.take_hyp.Goals as goal

pub returns : goal.returns
returns c =
    moved_gives c.args.work.now (hold c.args.kind c.args.formula (less c.args.work.now c.args.name.now)) c.in_ok-new.new c.in_ok-moved.moved c.by_move.result
    (c.in_ok-new.ensures ∙ ap (hold c.args.kind c.args.formula) c.in_ok-less.ensures) c.in_ok-moved.ensures c.by_move.ensures
