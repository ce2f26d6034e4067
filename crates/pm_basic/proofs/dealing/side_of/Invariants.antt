use Rattle.std.proofs.Common.{◌-◌}
use Rattle.std.specs.Option.{option_copied}
use Rattle.pm_basic.proofs.Building.{IsBuilt}
use Rattle.pm_basic.proofs.Dealt.{goes_step}
use Rattle.pm_basic.proofs.dealing.side_of.Given as goal

abbrev pub invariant-loop-next : goal.invariant-loop-next
invariant-loop-next l = IsBuilt (goes_step l.named (option_copied l.names)) l.hyps l.next l.out

abbrev pub decreases-loop-next : goal.decreases-loop-next
decreases-loop-next l = l.len - l.next
