use Rattle.pm_sweep.proofs.Variables.{universal}
use Rattle.pm_sweep.proofs.performing.is_universal.Goals as goal

pub returns-in-All : goal.returns-in-All
returns-in-All c = universal c.args.f.now c.in-All.field-0 c.in-All.is
