use Rattle.std.proofs.Common.{◌≡◌, min, take}
use Rattle.pm_logic.specs.Size as size
use Rattle.pm_logic.proofs.size.terms_nodes.Given as goal

abbrev pub invariant-loop-t : goal.invariant-loop-t
invariant-loop-t l = l.count ≡ min (size.terms_nodes (take l.t-index l.ts)) 18446744073709551615
