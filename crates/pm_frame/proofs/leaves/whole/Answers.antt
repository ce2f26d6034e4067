use Rattle.std.proofs.Common.{refl}
use Rattle.pm_frame.proofs.Units.{itself_done}
use Rattle.pm_frame.proofs.leaves.whole.Goals as goal

pub returns : goal.returns
returns c = record { rest = refl; proof = itself_done c.args.vars c.args.r.now c.in_ok-proof.proof c.in_ok-proof.ensures }
