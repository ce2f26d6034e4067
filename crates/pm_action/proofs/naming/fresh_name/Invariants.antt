use Rattle.std.proofs.Common.{◌≡◌, ◌≤◌, ◌-◌, ◌+◌}
use Rattle.pm_table.specs.Works.{names, first_free, fresh_name}
use Rattle.pm_action.proofs.naming.fresh_name.Given as goal

abbrev pub invariant-loop-n : goal.invariant-loop-n
invariant-loop-n l = (fresh_name l.goal ≡ first_free (names l.goal + 1 - l.n) l.n l.goal) × (1 ≤ l.n) × (l.n ≤ names l.goal + 1)

abbrev pub decreases-loop-n : goal.decreases-loop-n
decreases-loop-n l = l.names + 1 - l.n
