use Rattle.std.proofs.Common.{length}
use Rattle.pm_write.proofs.table.+put_arities.Given as goal

abbrev pub decreases-put_arities : goal.decreases-put_arities
decreases-put_arities l = length l.preds.now
