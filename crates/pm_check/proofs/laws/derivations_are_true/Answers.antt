use Rattle.pm_check.proofs.Truth as mine
use Rattle.pm_check.proofs.laws.derivations_are_true.Goals as goal

pub returns : goal.returns
returns c = mine.statements_true
