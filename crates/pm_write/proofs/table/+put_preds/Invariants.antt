use Rattle.std.proofs.Common.{length}
use Rattle.pm_write.proofs.table.+put_preds.Given as goal

abbrev pub decreases-put_preds : goal.decreases-put_preds
decreases-put_preds l = length l.preds.now
