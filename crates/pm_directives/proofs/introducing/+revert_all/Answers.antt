use Rattle.std.proofs.Common.{rules}
use Rattle.pm_table.specs.Directives.{revert_selected}
use Rattle.pm_sweep.proofs.Following.{stands_after}
use Rattle.pm_directives.proofs.Chained.{goes_back}
use Rattle.pm_directives.proofs.introducing.+revert_all.Goals as goal

pub revert_all-requires : goal.revert_all-requires
revert_all-requires t c = (search rules, stands_after c.args.standing c.in_ok-next-in-len1-up.next (revert_selected c.sel-item.result c.args.standing.goals) c.requires c.in_ok-next-in-len1-up.ensures)

pub returns-in_ok-next-in-len1-up : goal.returns-in_ok-next-in-len1-up
returns-in_ok-next-in-len1-up t c = goes_back revert_selected c.args.standing c.in_ok-next-in-len1-up.next c.args.sels.now c.sel-item.result c.revert_all.result c.in-len1-up.len_at_least c.sel-item.is c.in_ok-next-in-len1-up.ensures c.revert_all.ensures
