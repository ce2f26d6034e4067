use Rattle.std.proofs.Common.{length}
use Rattle.pm_directives.proofs.holding.+with_terms.Given as goal

abbrev pub decreases-with_terms : goal.decreases-with_terms
decreases-with_terms l = length l.terms.now
