use Rattle.pm_run.proofs.laws.halts_are_one.Goals as goal
use Rattle.pm_run.proofs.OneHalt as one

pub returns : goal.returns
returns c = one.halts_are_one
