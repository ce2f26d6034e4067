use Rattle.std.proofs.Common.{◌≡◌, ◌-◌, length, get_or, subst}
use Rattle.pm_action.proofs.Filtered.{last_is}
use Rattle.pm_action.proofs.contexts.last.Goals as goal

pub returns : goal.returns
returns c = last_is c.args.work.now.held c.index-held-held.result c.requires (subst (λ xs. c.index-held-held.result ≡ get_or xs (length xs - 1) c.index-held-held.result) c.as_slice-held.ensures c.index-held-held.is)
