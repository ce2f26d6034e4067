use Rattle.pm_star.proofs.Moving.{past_done}
use Rattle.pm_star.proofs.moves.past.Goals as goal

pub returns : goal.returns
returns c = past_done c.args.vars c.args.parts.now c.args.halves c.in_ok-made.made c.in_ok-made.ensures
