use Rattle.std.proofs.Common.{◌-◌}
use Rattle.pm_table.specs.Equality.{pure_eq}
use Rattle.pm_closing.proofs.Searches.{IsPassed}
use Rattle.pm_closing.proofs.searching.fact_at.Given as goal

abbrev pub invariant-loop-next : goal.invariant-loop-next
invariant-loop-next l = IsPassed (λ f. pure_eq l.wanted f.pure) l.facts l.next

abbrev pub decreases-loop-next : goal.decreases-loop-next
decreases-loop-next l = l.len - l.next
