use Rattle.std.proofs.Common.{◌-◌}
use Rattle.pm_goal.specs.declared.goal.Hyp.{Hyp}
use Rattle.pm_action.proofs.Filtered.{IsFiltered}
use Rattle.pm_action.proofs.contexts.hyps_but.Given as goal

abbrev pub invariant-loop-next : goal.invariant-loop-next
invariant-loop-next l = IsFiltered (λ (h : Hyp). h.name) l.name l.hyps l.next l.out

abbrev pub decreases-loop-next : goal.decreases-loop-next
decreases-loop-next l = l.len - l.next
