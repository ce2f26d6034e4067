use Rattle.std.proofs.Common.{◌≡◌, ◌++◌, take}
use Rattle.pm_model.proofs.heap.push_all.Given as goal

abbrev pub invariant-loop-cell : goal.invariant-loop-cell
invariant-loop-cell l = l.cells ≡ l.initial.cells ++ take l.cell-index l.more
