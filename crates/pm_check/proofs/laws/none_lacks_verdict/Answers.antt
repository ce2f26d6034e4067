use Rattle.pm_check.proofs.SomeVerdict as mine
use Rattle.pm_check.proofs.laws.none_lacks_verdict.Goals as goal

pub returns : goal.returns
returns c = mine.none_lacks_verdict
