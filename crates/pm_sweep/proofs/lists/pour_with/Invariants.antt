use Rattle.std.proofs.Common.{◌≡◌, ◌++◌, reverse, length, map}
use Rattle.pm_table.specs.Running.{turns_behind}
use Rattle.pm_sweep.proofs.lists.pour_with.Given as goal

abbrev pub invariant-loop-place : goal.invariant-loop-place
invariant-loop-place l = l.out ++ map (turns_behind l.turns) (reverse l.back) ≡ l.initial.out ++ map (turns_behind l.turns) (reverse l.initial.back)

abbrev pub decreases-loop-place : goal.decreases-loop-place
decreases-loop-place l = length l.back
