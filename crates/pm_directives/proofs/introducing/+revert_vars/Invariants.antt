use Rattle.std.proofs.Common.{length}
use Rattle.pm_directives.proofs.introducing.+revert_vars.Given as goal

abbrev pub decreases-revert_vars : goal.decreases-revert_vars
decreases-revert_vars l = length l.names.now
