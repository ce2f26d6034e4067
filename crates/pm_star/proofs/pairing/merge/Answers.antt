use Rattle.std.proofs.Common.{refl, arith}
use Rattle.pm_star.proofs.Pairs.{places_proof, behind_two, joined_done}
use Rattle.pm_star.proofs.pairing.merge.Goals as goal

pub one_for-requires : goal.one_for-requires
one_for-requires c = places_proof c.args.vars c.args.parts.now c.args.place _ c.index-parts-place.result c.index-parts-place-2.result _ c.args.by (omega (arith, c.requires.place)) c.requires.place c.index-parts-place.is c.index-parts-place-2.is c.requires.proof

pub returns : goal.returns
returns c =
    joined_done c.args.vars c.args.parts.now _ c.args.place _ c.index-parts-place.result c.index-parts-place-2.result c.in_ok-rest.rest c.args.by c.in_ok-proof.proof c.in_ok-proof-2.proof refl c.requires.place c.index-parts-place.is c.index-parts-place-2.is (behind_two c.args.parts.now c.args.place c.in_ok-rest.rest c.in_ok-rest.ensures) refl c.in_ok-proof.ensures c.in_ok-proof-2.ensures
