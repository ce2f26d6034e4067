use Rattle.pm_check.proofs.Truth as mine
use Rattle.pm_check.proofs.laws.nothing_absurd_is_derived.Goals as goal

pub returns : goal.returns
returns c = mine.nothing_absurd
