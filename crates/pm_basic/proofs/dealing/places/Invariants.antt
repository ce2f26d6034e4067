use Rattle.std.proofs.Common.{◌+◌, ◌-◌, length}
use Rattle.std.specs.Option.{option_copied}
use Rattle.pm_basic.specs.Deals.{goes}
use Rattle.pm_basic.proofs.Dealt.{ArePlaced}
use Rattle.pm_basic.proofs.dealing.places.Given as goal

abbrev pub invariant-loop-next : goal.invariant-loop-next
invariant-loop-next l = ArePlaced (goes l.named (option_copied l.names)) (length l.goal.pures + length l.goal.ints) l.goal.spats l.next l.out

abbrev pub decreases-loop-next : goal.decreases-loop-next
decreases-loop-next l = l.len - l.next
