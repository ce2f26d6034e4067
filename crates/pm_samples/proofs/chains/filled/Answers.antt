use Rattle.std.proofs.Common.{[], ◌∷◌}
use Rattle.pm_proof.specs.Trees.{empty}
use Rattle.pm_samples.proofs.Whole.{chain_of, chain_hole_at, chain_filled, chain_whole}
use Rattle.pm_samples.proofs.chains.filled.Goals as goal

pub fill-requires : goal.fill-requires
fill-requires c = chain_hole_at [] c.args.proof c.in_ok-step.step c.requires (chain_of [] 1 c.in_ok-step.step c.in_ok-step.ensures)

pub returns : goal.returns
returns c =
    chain_whole c.fill.result (chain_filled (empty ∷ []) [] 0 c.args.proof c.in_ok-step.step c.fill.result c.fill.ensures.proves c.requires (chain_of [] 1 c.in_ok-step.step c.in_ok-step.ensures))
