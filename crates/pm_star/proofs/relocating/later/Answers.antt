use Rattle.std.proofs.Common.{refl}
use Rattle.pm_star.proofs.Relocated.{later_within, later_done}
use Rattle.pm_star.proofs.relocating.later.Goals as goal

pub to_place-requires : goal.to_place-requires
to_place-requires c = later_within c.args.parts.now _ c.args.from c.args.to c.requires.order c.requires.to refl

pub returns : goal.returns
returns c =
    later_done c.args.vars c.args.parts.now _ _ c.args.from c.args.to c.index-parts-from.result c.in_ok-inner.inner c.in_ok-proof.proof c.requires.order c.requires.to c.index-parts-from.is refl refl c.in_ok-inner.ensures c.in_ok-proof.ensures
