use Rattle.std.proofs.Common.{refl, ◌∙◌}
use Rattle.pm_write.proofs.Spelled.{two}
use Rattle.pm_write.proofs.Tables.{no_arities, more_arities}
use Rattle.pm_write.proofs.table.+put_arities.Goals as goal

pub returns-in-empty : goal.returns-in-empty
returns-in-empty t c = no_arities _ _ c.in-empty.len_below

pub returns-in_ok-put-in-len1-up : goal.returns-in_ok-put-in-len1-up
returns-in_ok-put-in-len1-up t c = two _ _ _ _ _ _ _ c.in_ok-put-in-len1-up.ensures c.put_arities.ensures (more_arities _ _ _ _ c.in-len1-up.len_at_least c.pred-item.is refl (c.as_str.ensures.value ∙ c.in_ok-format-in-len1-up.ensures.ok))
