use Rattle.pm_hand.proofs.Lasts.{named_moves}
use Rattle.pm_hand.proofs.naming.to_context.Goals as goal

pub returns : goal.returns
returns c =
    named_moves c.args.work.now c.args.held.now c.args.name.now c.last_place.result c.end_of-place.result c.in_ok-proof.proof c.requires.last c.last_place.ensures c.end_of-place.ensures
    c.in_ok-proof.ensures
