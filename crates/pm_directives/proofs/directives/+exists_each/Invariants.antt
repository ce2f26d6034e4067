use Rattle.std.proofs.Common.{length}
use Rattle.pm_directives.proofs.directives.+exists_each.Given as goal

abbrev pub decreases-exists_each : goal.decreases-exists_each
decreases-exists_each l = length l.terms.now
