use Rattle.pm_framing.proofs.Lasting.{last_is_apart}
use Rattle.pm_framing.proofs.in_hand.last_apart.Goals as goal

pub returns : goal.returns
returns c = last_is_apart c.args.work.now c.args.held.now c.last_place.result c.in_ok-proof.proof c.requires.last c.last_place.ensures c.in_ok-proof.ensures
