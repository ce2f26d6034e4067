use Rattle.std.proofs.Common.{length}
use Rattle.pm_write.proofs.rules.+put_factors.Given as goal

abbrev pub decreases-put_factors : goal.decreases-put_factors
decreases-put_factors l = length l.factors.now
