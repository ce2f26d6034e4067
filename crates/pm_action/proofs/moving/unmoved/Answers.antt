use Rattle.pm_action.proofs.Moves.{stays_as}
use Rattle.pm_action.proofs.moving.unmoved.Goals as goal

pub returns : goal.returns
returns c = stays_as c.args.work.now c.args.new c.in_ok-proof.proof c.in_ok-proof.proof c.finish_one.result c.requires.same c.in_ok-proof.ensures c.finish_one.ensures
