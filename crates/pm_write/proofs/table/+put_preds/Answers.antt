use Rattle.pm_write.proofs.Spelled.{two}
use Rattle.pm_write.proofs.Tables.{more_preds}
use Rattle.pm_write.proofs.table.+put_preds.Goals as goal

pub returns-in_ok-put_pred-in-len1-up : goal.returns-in_ok-put_pred-in-len1-up
returns-in_ok-put_pred-in-len1-up t c = two _ _ _ _ _ _ _ c.in_ok-put_pred-in-len1-up.ensures c.put_preds.ensures (more_preds _ _ c.in-len1-up.len_at_least c.pred-item.is)
