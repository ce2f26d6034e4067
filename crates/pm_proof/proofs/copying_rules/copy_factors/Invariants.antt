use Rattle.std.proofs.Common.{◌≡◌, take}
use Rattle.pm_proof.proofs.copying_rules.copy_factors.Given as goal

abbrev pub invariant-loop-factor : goal.invariant-loop-factor
invariant-loop-factor l = l.same ≡ take l.factor-index l.factors
