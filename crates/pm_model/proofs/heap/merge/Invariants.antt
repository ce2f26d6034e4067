use Rattle.std.proofs.Common.{◌+◌, length}
use Rattle.pm_model.proofs.Merge.{Remains}
use Rattle.pm_model.proofs.heap.merge.Given as goal

abbrev pub invariant-loop-left : goal.invariant-loop-left
invariant-loop-left l = Remains l.a l.b l.cells l.left l.right

abbrev pub decreases-loop-left : goal.decreases-loop-left
decreases-loop-left l = length l.left + length l.right
