use Rattle.std.proofs.Common.{[], ◌∷◌}
use Rattle.pm_proof.specs.Trees.{empty}
use Rattle.pm_samples.proofs.Whole.{chain_of, twice_hole, twice_filled}
use Rattle.pm_samples.proofs.chains.around.Goals as goal

pub fill-requires : goal.fill-requires
fill-requires c =
    twice_hole c.filled_place.result c.in_ok-open.open c.in_ok-step.step c.filled_place.ensures (chain_of (empty ∷ empty ∷ []) 1 c.in_ok-open.open c.in_ok-open.ensures) (chain_of [] 1 c.in_ok-step.step c.in_ok-step.ensures)

pub returns : goal.returns
returns c =
    twice_filled c.filled_place.result c.in_ok-open.open c.in_ok-step.step c.fill.result c.filled_place.ensures c.fill.ensures.proves (chain_of (empty ∷ empty ∷ []) 1 c.in_ok-open.open c.in_ok-open.ensures) (chain_of [] 1 c.in_ok-step.step c.in_ok-step.ensures)
