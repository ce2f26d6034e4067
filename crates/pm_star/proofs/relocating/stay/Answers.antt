use Rattle.std.proofs.Common.{length}
use Rattle.pm_star.proofs.Relocated.{stay_done}
use Rattle.pm_star.proofs.relocating.stay.Goals as goal

pub returns : goal.returns
returns c = stay_done c.args.vars (length c.args.parts.now) c.args.parts.now c.args.place c.in_ok-proof.proof c.requires c.in_ok-proof.ensures
