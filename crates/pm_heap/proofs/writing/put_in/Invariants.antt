use Rattle.std.proofs.Common.{◌-◌}
use Rattle.pm_intro.proofs.Mapped.{IsMapped}
use Rattle.pm_heap.specs.Found.{placed}
use Rattle.pm_heap.proofs.writing.put_in.Given as goal

abbrev pub invariant-loop-next : goal.invariant-loop-next
invariant-loop-next l = IsMapped (placed l.name l.formula) l.hyps l.next l.out

abbrev pub decreases-loop-next : goal.decreases-loop-next
decreases-loop-next l = l.len - l.next
