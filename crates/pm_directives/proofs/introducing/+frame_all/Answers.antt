use Rattle.std.proofs.Common.{rules}
use Rattle.pm_table.specs.Directives.{frame_selected}
use Rattle.pm_sweep.proofs.Following.{stands_after}
use Rattle.pm_directives.proofs.Chained.{goes_on}
use Rattle.pm_directives.proofs.introducing.+frame_all.Goals as goal

pub frame_all-requires : goal.frame_all-requires
frame_all-requires t c = (search rules, stands_after c.args.standing c.in_ok-next-in-len1-up.next (frame_selected c.sel-item.result c.args.standing.goals) c.requires c.in_ok-next-in-len1-up.ensures)

pub returns-in_ok-next-in-len1-up : goal.returns-in_ok-next-in-len1-up
returns-in_ok-next-in-len1-up t c = goes_on frame_selected c.args.standing c.in_ok-next-in-len1-up.next c.args.sels.now c.sel-item.result c.frame_all.result c.in-len1-up.len_at_least c.sel-item.is c.in_ok-next-in-len1-up.ensures c.frame_all.ensures
