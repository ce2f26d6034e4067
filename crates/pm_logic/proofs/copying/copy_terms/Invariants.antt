use Rattle.std.proofs.Common.{◌≡◌, take}
use Rattle.pm_logic.proofs.copying.copy_terms.Given as goal

abbrev pub invariant-loop-t : goal.invariant-loop-t
invariant-loop-t l = l.out ≡ take l.t-index l.ts
