use Rattle.std.proofs.Common.{◌-◌, length}
use Rattle.pm_basic.proofs.Listing.{IsApart}
use Rattle.pm_basic.proofs.dealing.repeated.Given as goal

abbrev pub invariant-loop-i : goal.invariant-loop-i
invariant-loop-i l = IsApart l.names l.i

abbrev pub decreases-loop-i : goal.decreases-loop-i
decreases-loop-i l = length l.names - l.i
