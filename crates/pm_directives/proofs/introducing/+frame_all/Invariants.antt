use Rattle.std.proofs.Common.{length}
use Rattle.pm_directives.proofs.introducing.+frame_all.Given as goal

abbrev pub decreases-frame_all : goal.decreases-frame_all
decreases-frame_all l = length l.sels.now
