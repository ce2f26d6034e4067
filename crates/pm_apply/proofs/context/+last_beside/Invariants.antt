use Rattle.std.proofs.Common.{length}
use Rattle.pm_apply.proofs.context.+last_beside.Given as goal

abbrev pub decreases-last_beside : goal.decreases-last_beside
decreases-last_beside l = length l.work.now.held
