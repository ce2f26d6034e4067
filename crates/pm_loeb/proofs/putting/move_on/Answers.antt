use Rattle.pm_loeb.proofs.Exchanged.{moves_on}
use Rattle.pm_loeb.proofs.putting.move_on.Goals as goal

pub returns : goal.returns
returns c = moves_on c.args.made c.args.moved c.in_ok-wanted.wanted c.in_ok-proof.proof c.finish_one_over.result c.in_ok-wanted.ensures c.in_ok-proof.ensures.proves c.finish_one_over.ensures
