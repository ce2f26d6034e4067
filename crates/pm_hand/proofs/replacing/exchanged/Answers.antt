use Rattle.pm_hand.proofs.Relasts.{exchange_left, exchange_moves}
use Rattle.pm_hand.proofs.replacing.exchanged.Goals as goal

pub replace_at_held-requires-clause-left : goal.replace_at_held-requires-clause-left
replace_at_held-requires-clause-left c =
    exchange_left c.args.work.now c.args.held.now c.requires.last c.args.kind c.args.formula.now c.args.by c.last_place.result c.last_place.ensures c.requires.says

pub returns : goal.returns
returns c =
    exchange_moves c.args.work.now c.args.held.now c.requires.last c.args.kind c.args.formula.now c.args.by c.in_ok-proof.proof c.last_place.result c.last_place.ensures c.requires.says
    c.in_ok-proof.ensures
