use Rattle.std.proofs.Common.{◌≡◌, take, map}
use Rattle.pm_logic.specs.Walks.{filled, replaced}
use Rattle.pm_logic.proofs.compare.are_replaced.Given as goal

abbrev pub invariant-loop-i : goal.invariant-loop-i
invariant-loop-i l = take l.i l.us ≡ map (replaced (filled l.fill l.terms) l.d) (take l.i l.ts)
