use Rattle.std.proofs.Common.{◌≡◌, [], ◌∷◌, ◌++◌, reverse, length}
use Rattle.pm_proof.specs.Parts.{parts_of_all}
use Rattle.pm_proof.proofs.proof.Proof.copy.Given as goal

abbrev pub invariant-loop-part : goal.invariant-loop-part
invariant-loop-part l = l.parts.items ++ parts_of_all (reverse l.built.items) ≡ parts_of_all (l.self ∷ [])

abbrev pub decreases-loop-part : goal.decreases-loop-part
decreases-loop-part l = length l.parts.items
