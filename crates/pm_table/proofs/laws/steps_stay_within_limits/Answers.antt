-- A goal within the limits goes to goals within them.
use Rattle.pm_table.proofs.laws.steps_stay_within_limits.Goals as goal
use Rattle.pm_table.proofs.Within as within

pub returns : goal.returns
returns c = within.steps_stay_within_limits
