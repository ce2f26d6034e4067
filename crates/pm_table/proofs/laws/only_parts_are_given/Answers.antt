use Rattle.pm_table.proofs.laws.only_parts_are_given.Goals as goal
use Rattle.pm_table.proofs.PartsGiven as law

pub returns : goal.returns
returns c = law.only_parts_are_given
