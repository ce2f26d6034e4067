use Rattle.std.proofs.Common.{◌≡◌, min, take}
use Rattle.pm_logic.specs.Size as size
use Rattle.pm_logic.proofs.size.terms_depth.Given as goal

abbrev pub invariant-loop-t : goal.invariant-loop-t
invariant-loop-t l = l.deepest ≡ min (size.terms_depth (take l.t-index l.ts)) 4294967295
