use Rattle.std.proofs.Common.{◌≡◌, ◌≤◌, ◌-◌, ◌^◌, min, drop, length}
use Rattle.pm_table.specs.Limits.{all_nodes}
use Rattle.pm_action.proofs.limits.all_nodes.Given as goal

abbrev pub invariant-loop-i : goal.invariant-loop-i
invariant-loop-i l = (l.sum ≡ min (all_nodes (drop l.i l.formulas)) (2 ^ 64 - 1)) × (l.i ≤ length l.formulas)

abbrev pub decreases-loop-i : goal.decreases-loop-i
decreases-loop-i l = l.i
