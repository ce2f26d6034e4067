use Rattle.pm_table.proofs.laws.steps_keep_names_apart.Goals as goal
use Rattle.pm_table.proofs.Apart as law

pub returns : goal.returns
returns c = law.steps_keep_names_apart
