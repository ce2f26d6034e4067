use Rattle.std.proofs.Common.{refl}
use Rattle.pm_star.proofs.Relocated.{earlier_within, earlier_done}
use Rattle.pm_star.proofs.relocating.earlier.Goals as goal

pub to_front-requires : goal.to_front-requires
to_front-requires c = earlier_within c.args.parts.now _ c.args.from c.args.to c.requires.order c.requires.from refl

pub returns : goal.returns
returns c =
    earlier_done c.args.vars c.args.parts.now _ _ c.args.from c.args.to c.in_ok-inner.inner c.in_ok-proof.proof c.requires.order c.requires.from refl refl c.in_ok-inner.ensures c.in_ok-proof.ensures
