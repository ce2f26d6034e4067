use Rattle.pm_write.proofs.Spelled.{three, text_no_args, text_more_args}
use Rattle.pm_write.proofs.texts.+put_terms.Goals as goal

pub returns-in-empty : goal.returns-in-empty
returns-in-empty t c = text_no_args _ _ c.in-empty.len_below

pub returns-in_ok-put_term-in-len1-up : goal.returns-in_ok-put_term-in-len1-up
returns-in_ok-put_term-in-len1-up t c = three _ _ _ _ _ _ _ _ _ c.in_ok-put-in-len1-up.ensures c.in_ok-put_term-in-len1-up.ensures c.put_terms.ensures (text_more_args _ _ c.in-len1-up.len_at_least c.t-item.is)
