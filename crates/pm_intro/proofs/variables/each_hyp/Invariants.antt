use Rattle.std.proofs.Common.{◌-◌}
use Rattle.pm_intro.proofs.Mapped.{IsMapped, raised_hyp}
use Rattle.pm_intro.proofs.variables.each_hyp.Given as goal

abbrev pub invariant-loop-next : goal.invariant-loop-next
invariant-loop-next l = IsMapped raised_hyp l.hyps l.next l.out

abbrev pub decreases-loop-next : goal.decreases-loop-next
decreases-loop-next l = l.len - l.next
