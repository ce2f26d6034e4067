use Rattle.std.proofs.Common.{length}
use Rattle.pm_directives.proofs.introducing.+intro_each.Given as goal

abbrev pub decreases-intro_each : goal.decreases-intro_each
decreases-intro_each l = length l.pats.now
