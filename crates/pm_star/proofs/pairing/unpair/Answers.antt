use Rattle.std.proofs.Common.{refl}
use Rattle.pm_star.proofs.Moving.{behind_slice}
use Rattle.pm_star.proofs.Pairs.{place_proof, paired_done}
use Rattle.pm_star.proofs.pairing.unpair.Goals as goal

pub two_for-requires : goal.two_for-requires
two_for-requires c = place_proof c.args.vars c.args.parts.now c.args.place c.index-parts-place.result _ c.args.by c.requires.place c.index-parts-place.is c.requires.proof

pub returns : goal.returns
returns c =
    paired_done c.args.vars c.args.parts.now _ c.args.place c.index-parts-place.result c.in_ok-rest.rest c.args.first.now c.args.second.now c.args.by c.in_ok-proof.proof c.in_ok-proof-2.proof c.requires.place c.index-parts-place.is (behind_slice c.args.parts.now c.args.place c.in_ok-rest.rest c.in_ok-rest.ensures) refl c.in_ok-proof.ensures c.in_ok-proof-2.ensures
