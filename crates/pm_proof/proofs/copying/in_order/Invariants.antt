use Rattle.std.proofs.Common.{◌≡◌, [], ◌∷◌, ◌++◌, reverse, length}
use Rattle.pm_proof.specs.Parts.{parts_of_all}
use Rattle.pm_proof.proofs.copying.in_order.Given as goal

abbrev pub invariant-loop-part : goal.invariant-loop-part
invariant-loop-part l = l.parts.items ++ parts_of_all (reverse l.ahead.items) ≡ parts_of_all (l.whole ∷ [])

abbrev pub decreases-loop-part : goal.decreases-loop-part
decreases-loop-part l = length (parts_of_all (reverse l.ahead.items))
