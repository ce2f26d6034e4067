-- A script comes to one thing.
use Rattle.pm_run.proofs.laws.runs_are_one.Goals as goal
use Rattle.pm_run.proofs.OneRun as one

pub returns : goal.returns
returns c = one.runs_are_one
