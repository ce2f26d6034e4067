use Rattle.std.proofs.Common.{◌≡◌, take}
use Rattle.pm_tests.proofs.sums.heap.Given as goal

abbrev pub invariant-loop-cell : goal.invariant-loop-cell
invariant-loop-cell g l = l.list ≡ take l.cell-index l.cells
