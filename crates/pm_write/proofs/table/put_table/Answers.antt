use Rattle.pm_write.proofs.Spelled.{four}
use Rattle.pm_write.proofs.Tables.{table_pieces}
use Rattle.pm_write.proofs.table.put_table.Goals as goal

pub returns : goal.returns
returns c = four _ _ _ _ _ _ _ _ _ _ _ c.in_ok-put.ensures c.in_ok-put_arities.ensures c.in_ok-put-2.ensures c.put_preds.ensures (table_pieces _)
