use Rattle.std.proofs.Common.{length}
use Rattle.pm_directives.proofs.introducing.+revert_all.Given as goal

abbrev pub decreases-revert_all : goal.decreases-revert_all
decreases-revert_all l = length l.sels.now
