use Rattle.std.proofs.Common.{◌≡◌, ◌++◌, reverse, length, map}
use Rattle.pm_table.specs.Running.{with_turn}
use Rattle.pm_sweep.proofs.lists.pour_next.Given as goal

abbrev pub invariant-loop-place : goal.invariant-loop-place
invariant-loop-place l = l.out ++ map with_turn (reverse l.back) ≡ l.initial.out ++ map with_turn (reverse l.initial.back)

abbrev pub decreases-loop-place : goal.decreases-loop-place
decreases-loop-place l = length l.back
