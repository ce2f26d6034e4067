use Rattle.std.proofs.Common.{◌≡◌, ◌≤◌, ◌-◌, ◌^◌, min, drop, length}
use Rattle.pm_table.specs.Limits.{greatest_depth}
use Rattle.pm_action.proofs.limits.greatest_depth.Given as goal

abbrev pub invariant-loop-i : goal.invariant-loop-i
invariant-loop-i l = (l.deepest ≡ min (greatest_depth (drop l.i l.formulas)) (2 ^ 32 - 1)) × (l.i ≤ length l.formulas)

abbrev pub decreases-loop-i : goal.decreases-loop-i
decreases-loop-i l = l.i
