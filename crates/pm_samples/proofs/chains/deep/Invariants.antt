use Rattle.std.proofs.Common.{[], ◌∷◌}
use Rattle.pm_proof.specs.Trees.{empty}
use Rattle.pm_samples.specs.Whole.{IsChain}
use Rattle.pm_samples.proofs.chains.deep.Given as goal

abbrev pub invariant-loop : goal.invariant-loop
invariant-loop l = IsChain (empty ∷ []) l.made
