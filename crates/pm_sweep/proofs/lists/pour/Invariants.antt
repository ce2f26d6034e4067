use Rattle.std.proofs.Common.{◌≡◌, ◌++◌, reverse, length}
use Rattle.pm_sweep.proofs.lists.pour.Given as goal

abbrev pub invariant-loop-place : goal.invariant-loop-place
invariant-loop-place l = l.out ++ reverse l.back ≡ l.initial.out ++ reverse l.initial.back

abbrev pub decreases-loop-place : goal.decreases-loop-place
decreases-loop-place l = length l.back
