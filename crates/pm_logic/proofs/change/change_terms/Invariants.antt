use Rattle.std.proofs.Common.{◌≡◌, take, map}
use Rattle.pm_logic.specs.Walks.{change_of}
use Rattle.pm_logic.proofs.change.change_terms.Given as goal

abbrev pub invariant-loop-t : goal.invariant-loop-t
invariant-loop-t l = l.out ≡ map (change_of l.change l.terms l.d) (take l.t-index l.ts)
