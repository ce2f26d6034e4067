use Rattle.std.proofs.Common.{◌∙◌}
use Rattle.pm_write.proofs.Spelled.{two}
use Rattle.pm_write.proofs.Wording.{no_factors, more_factors}
use Rattle.pm_write.proofs.rules.+put_factors.Goals as goal

pub returns-in-empty : goal.returns-in-empty
returns-in-empty t c = no_factors _ _ c.in-empty.len_below

pub returns-in_ok-put-in-len1-up : goal.returns-in_ok-put-in-len1-up
returns-in_ok-put-in-len1-up t c = two _ _ _ _ _ _ _ c.in_ok-put-in-len1-up.ensures c.put_factors.ensures (more_factors _ _ _ c.in-len1-up.len_at_least (c.as_str.ensures.value ∙ c.in_ok-word-in-len1-up.ensures))
