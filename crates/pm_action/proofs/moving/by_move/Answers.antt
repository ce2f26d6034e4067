use Rattle.pm_action.proofs.Moves.{moved_to}
use Rattle.pm_action.proofs.moving.by_move.Goals as goal

pub returns : goal.returns
returns c = moved_to c.args.work.now c.args.new c.args.moved c.in_ok-wanted.wanted c.in_ok-proof.proof c.finish_one.result c.requires.vars c.requires.concl c.requires.moved c.in_ok-wanted.ensures c.in_ok-proof.ensures.proves c.finish_one.ensures
