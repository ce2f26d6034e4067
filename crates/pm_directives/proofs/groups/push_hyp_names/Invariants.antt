use Rattle.std.proofs.Common.{◌-◌}
use Rattle.pm_goal.specs.declared.goal.Hyp.{Hyp}
use Rattle.pm_directives.proofs.Named.{IsNamed}
use Rattle.pm_directives.proofs.groups.push_hyp_names.Given as goal

abbrev pub invariant-loop-next : goal.invariant-loop-next
invariant-loop-next l = IsNamed (λ (h : Hyp). h.name) l.hyps l.next l.initial.out l.out

abbrev pub decreases-loop-next : goal.decreases-loop-next
decreases-loop-next l = l.len - l.next
