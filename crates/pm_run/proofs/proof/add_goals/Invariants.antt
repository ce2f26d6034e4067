use Rattle.std.proofs.Common.{◌≡◌, ◌++◌, reverse, length}
use Rattle.pm_run.proofs.proof.add_goals.Given as goal

abbrev pub invariant-loop-goal : goal.invariant-loop-goal
invariant-loop-goal l = l.more ++ reverse l.goals ≡ l.initial.more ++ reverse l.initial.goals

abbrev pub decreases-loop-goal : goal.decreases-loop-goal
decreases-loop-goal l = length l.more
