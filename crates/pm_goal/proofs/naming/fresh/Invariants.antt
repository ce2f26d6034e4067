use Rattle.std.proofs.Common.{◌≤◌, ◌-◌, ◌^◌}
use Rattle.pm_goal.specs.Fresh.{AreNames}
use Rattle.pm_goal.proofs.naming.fresh.Given as goal

abbrev pub invariant-loop-name : goal.invariant-loop-name
invariant-loop-name l = (1 ≤ l.n) × AreNames l.fn.goal l.n

abbrev pub decreases-loop-name : goal.decreases-loop-name
decreases-loop-name l = 2 ^ 64 - l.n
