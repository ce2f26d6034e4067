use Rattle.std.proofs.Common.{length}
use Rattle.pm_terms.proofs.terms.+signed.Given as goal

abbrev pub decreases-signed : goal.decreases-signed
decreases-signed l = length l.signs.now
