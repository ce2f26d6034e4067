use Rattle.std.proofs.Common.{◌≡◌, take}
use Rattle.pm_proof.proofs.copying_rules.copy_terms.Given as goal

abbrev pub invariant-loop-t : goal.invariant-loop-t
invariant-loop-t l = l.same ≡ take l.t-index l.terms
