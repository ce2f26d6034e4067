use Rattle.std.proofs.Common.{◌-◌, ◌≤◌, length}
use Rattle.pm_action.proofs.Filtered.{IsCopied}
use Rattle.pm_action.proofs.contexts.others.Given as goal

abbrev pub invariant-loop-i : goal.invariant-loop-i
invariant-loop-i l = IsCopied l.work.held l.i l.out × (l.i ≤ length l.work.held - 1)

abbrev pub decreases-loop-i : goal.decreases-loop-i
decreases-loop-i l = l.count - l.i
