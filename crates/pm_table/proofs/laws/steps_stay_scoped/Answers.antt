use Rattle.pm_table.proofs.laws.steps_stay_scoped.Goals as goal
use Rattle.pm_table.proofs.StaysScoped as law

pub returns : goal.returns
returns c = law.steps_stay_scoped
