use Rattle.std.proofs.Common.{ℕ, pos, ◌<◌, slice_index_or}
use Rattle.pm_linform.specs.Entries.{IsAtMost}
use Rattle.pm_linform.proofs.are_at_most.Given as goal

abbrev pub invariant-loop-x : goal.invariant-loop-x
invariant-loop-x l = (k : ℕ) → k < l.x-index → IsAtMost l.bound (slice_index_or l.xs k (pos 0))
