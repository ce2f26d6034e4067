-- A script comes to something.
use Rattle.pm_run.proofs.laws.runs_are_total.Goals as goal
use Rattle.pm_run.proofs.SomeRun as some

pub returns : goal.returns
returns c = some.runs_are_total
