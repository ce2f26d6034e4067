use Rattle.pm_modal.proofs.Elims.{front_moves}
use Rattle.pm_modal.proofs.eliminating.front.Goals as goal

pub returns : goal.returns
returns c = front_moves c.args.work.now c.args.held.now c.last_place.result c.in_ok-proof.proof c.requires.last c.last_place.ensures c.in_ok-proof.ensures
