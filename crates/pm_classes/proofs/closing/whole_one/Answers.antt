use Rattle.pm_classes.proofs.Known.{same_has}
use Rattle.pm_classes.proofs.closing.whole_one.Goals as goal

pub returns-clause-proof : goal.returns-clause-proof
returns-clause-proof c = same_has c.args.vars c.args.f.now c.in_ok-proof.proof c.in_ok-proof.ensures
