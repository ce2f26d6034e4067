use Rattle.std.proofs.Common.{◌-◌}
use Rattle.pm_basic.proofs.Building.{IsBuilt}
use Rattle.pm_basic.proofs.Changed.{one_hyp}
use Rattle.pm_basic.proofs.changing.each_hyp.Given as goal

abbrev pub invariant-loop-next : goal.invariant-loop-next
invariant-loop-next l = IsBuilt (one_hyp l.sigma) l.hyps l.next l.out

abbrev pub decreases-loop-next : goal.decreases-loop-next
decreases-loop-next l = l.len - l.next
