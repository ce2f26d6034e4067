use Rattle.pm_linform.proofs.Dots.{sums}
use Rattle.pm_linform.proofs.sums_are_exact.Goals as goal

pub returns : goal.returns
returns c = sums
