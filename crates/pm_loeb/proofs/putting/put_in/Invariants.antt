use Rattle.std.proofs.Common.{◌-◌}
use Rattle.pm_basic.proofs.Building.{IsBuilt}
use Rattle.pm_loeb.proofs.Puttings.{put_one}
use Rattle.pm_loeb.proofs.putting.put_in.Given as goal

abbrev pub invariant-loop-next : goal.invariant-loop-next
invariant-loop-next l = IsBuilt (put_one l.name l.new) l.hyps l.next l.out

abbrev pub decreases-loop-next : goal.decreases-loop-next
decreases-loop-next l = l.len - l.next
