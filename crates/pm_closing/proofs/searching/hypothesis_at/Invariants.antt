use Rattle.std.proofs.Common.{◌-◌}
use Rattle.pm_table.specs.Equality.{formula_eq}
use Rattle.pm_closing.proofs.Searches.{IsPassed}
use Rattle.pm_closing.proofs.searching.hypothesis_at.Given as goal

abbrev pub invariant-loop-next : goal.invariant-loop-next
invariant-loop-next l = IsPassed (λ h. formula_eq l.wanted h.formula) l.hyps l.next

abbrev pub decreases-loop-next : goal.decreases-loop-next
decreases-loop-next l = l.len - l.next
