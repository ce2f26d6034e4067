use Rattle.std.proofs.Common.{refl}
use Rattle.pm_star.proofs.Sunk.{start_sunk, onward_slice, place_done}
use Rattle.pm_star.proofs.sinking.to_place.Goals as goal

pub past_all-requires : goal.past_all-requires
past_all-requires c = start_sunk c.args.vars _ _ c.args.a.now c.in_ok-rest.rest c.in_ok-proof.proof c.in_ok-proof.ensures

pub returns : goal.returns
returns c =
    place_done c.args.vars c.args.parts.now _ c.args.place c.args.a.now c.in_ok-rest.rest c.in_ok-proof.proof c.in_ok-made.made c.conclusion.result.now c.in_ok-step.step c.fill.result c.requires (onward_slice c.args.parts.now c.args.place c.in_ok-rest.rest c.in_ok-rest.ensures) refl c.in_ok-proof.ensures c.in_ok-made.ensures c.conclusion.ensures c.in_ok-step.ensures c.fill.ensures.extends
