use Rattle.std.proofs.Common.{◌≡◌, ◌++◌, reverse, length}
use Rattle.pm_sweep.proofs.lists.turned.Given as goal

abbrev pub invariant-loop-place : goal.invariant-loop-place
invariant-loop-place l = l.places ++ reverse l.back ≡ l.initial.places

abbrev pub decreases-loop-place : goal.decreases-loop-place
decreases-loop-place l = length l.places
