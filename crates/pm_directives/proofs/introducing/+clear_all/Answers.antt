use Rattle.std.proofs.Common.{rules}
use Rattle.pm_table.specs.Patterns.{clear_selected}
use Rattle.pm_sweep.proofs.Following.{stands_after}
use Rattle.pm_directives.proofs.Chained.{goes_on}
use Rattle.pm_directives.proofs.introducing.+clear_all.Goals as goal

pub clear_all-requires : goal.clear_all-requires
clear_all-requires t c = (search rules, stands_after c.args.standing c.in_ok-next-in-len1-up.next (clear_selected c.sel-item.result c.args.standing.goals) c.requires c.in_ok-next-in-len1-up.ensures)

pub returns-in_ok-next-in-len1-up : goal.returns-in_ok-next-in-len1-up
returns-in_ok-next-in-len1-up t c = goes_on clear_selected c.args.standing c.in_ok-next-in-len1-up.next c.args.sels.now c.sel-item.result c.clear_all.result c.in-len1-up.len_at_least c.sel-item.is c.in_ok-next-in-len1-up.ensures c.clear_all.ensures
