use Rattle.std.proofs.Common.{◌∙◌}
use Rattle.pm_basic.proofs.Reverted.{front_done, front_always}
use Rattle.pm_basic.proofs.reverting.to_front.Goals as goal

pub returns : goal.returns
returns c = front_done c.args.work.now c.args.place c.conclusion-e.result.now c.in-Sep.part _ c.in_ok-part-in-Sep.part c.in_ok-moved.moved c.conclusion-e.ensures c.in-Sep.is (c.in_ok-part-in-Sep.ensures ∙ c.get.ensures) c.in_ok-moved.ensures

pub unreachable-requires : goal.unreachable-requires
unreachable-requires c = absurd (front_always c.args.work.now c.args.place c.conclusion-e.result.now c.in_ok-moved.moved c.conclusion-e.ensures c.in_default.not-Sep c.in_ok-moved.ensures)
