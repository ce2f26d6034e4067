use Rattle.std.proofs.Common.{◌-◌}
use Rattle.pm_closing.proofs.Searches.{IsPassed}
use Rattle.pm_closing.proofs.Opposed.{is_denied}
use Rattle.pm_closing.proofs.opposites.opposites.Given as goal

abbrev pub invariant-loop-next : goal.invariant-loop-next
invariant-loop-next l = IsPassed (is_denied l.facts) l.facts l.next

abbrev pub decreases-loop-next : goal.decreases-loop-next
decreases-loop-next l = l.len - l.next
