use Rattle.std.proofs.Common.{[], ◌∷◌}
use Rattle.pm_proof.specs.Trees.{empty}
use Rattle.pm_samples.proofs.Whole.{chain_hole_at, chain_filled}
use Rattle.pm_samples.proofs.chains.deeper.Goals as goal

pub fill-requires : goal.fill-requires
fill-requires c = chain_hole_at (empty ∷ []) c.in_ok-open.open c.args.inner c.in_ok-open.ensures c.requires

pub returns : goal.returns
returns c = chain_filled (empty ∷ []) (empty ∷ []) 0 c.in_ok-open.open c.args.inner c.fill.result c.fill.ensures.proves c.in_ok-open.ensures c.requires
