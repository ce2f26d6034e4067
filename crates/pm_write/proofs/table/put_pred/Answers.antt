use Rattle.pm_write.proofs.Wording.{five}
use Rattle.pm_write.proofs.Tables.{one_pred}
use Rattle.pm_write.proofs.table.put_pred.Goals as goal

pub returns : goal.returns
returns c = five _ _ _ _ _ _ _ _ _ _ _ _ _ c.in_ok-put.ensures c.in_ok-extend.ensures.ok c.in_ok-put-2.ensures c.in_ok-put_formula.ensures c.put-3.ensures (one_pred _ _ _ c.bytes.ensures)
