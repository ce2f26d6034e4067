use Rattle.pm_hand.proofs.Relasts.{dropped_moves}
use Rattle.pm_hand.proofs.dropping.without_last.Goals as goal

pub returns : goal.returns
returns c = dropped_moves c.args.work.now c.last_place.result c.in_ok-proof.proof c.requires.some c.last_place.ensures c.in_ok-proof.ensures
