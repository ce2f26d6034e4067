use Rattle.pm_star.proofs.Moving.{split_done}
use Rattle.pm_star.proofs.moves.split.Goals as goal

pub returns : goal.returns
returns c = split_done c.args.vars c.args.shared c.args.listed.now c.args.parts.now c.in_ok-proof.proof c.in_ok-made.made c.in_ok-proof.ensures c.in_ok-made.ensures
