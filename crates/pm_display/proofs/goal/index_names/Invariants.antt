use Rattle.std.proofs.Common.{◌≡◌, ◌≤◌, reverse, drop, length}
use Rattle.pm_display.proofs.goal.index_names.Given as goal

abbrev pub invariant-loop-i : goal.invariant-loop-i
invariant-loop-i l = (l.names ≡ reverse (drop l.i l.vars)) × (l.i ≤ length l.vars)

abbrev pub decreases-loop-i : goal.decreases-loop-i
decreases-loop-i l = l.i
