use Rattle.pm_hand.proofs.Relasts.{drop_answers}
use Rattle.pm_hand.proofs.dropping.drop_held.Goals as goal

pub returns : goal.returns
returns c = drop_answers c.args.work.now c.in_ok-new.new c.in_ok-moved.moved c.by_move.result c.requires.some c.in_ok-new.ensures c.in_ok-moved.ensures c.by_move.ensures
