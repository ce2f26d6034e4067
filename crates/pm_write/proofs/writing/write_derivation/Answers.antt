use Rattle.pm_write.proofs.Stating.{finished}
use Rattle.pm_write.proofs.writing.write_derivation.Goals as goal

pub returns : goal.returns
returns c = finished _ _ _ _ _ _ _ _ _ _ c.new-text.ensures c.as_slice-2.ensures c.as_slice-3.ensures c.in_ok-put_table.ensures c.in_ok-extend.ensures.ok c.requires.table c.as_slice.ensures c.in_ok-prove_all.ensures c.requires.proofs c.new-written.ensures
