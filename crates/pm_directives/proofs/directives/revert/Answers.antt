use Rattle.std.proofs.Common.{reverse}
use Rattle.pm_table.specs.Running.{act, in_order}
use Rattle.pm_table.specs.Basic.{on_goal, revert_var}
use Rattle.pm_table.specs.Directives.{revert_selected}
use Rattle.pm_sweep.proofs.Following.{then_follows, stands_after}
use Rattle.pm_directives.proofs.directives.revert.Goals as goal

pub revert_vars-requires : goal.revert_vars-requires
revert_vars-requires c = stands_after c.args.standing c.in_ok-next.next (in_order revert_selected (reverse c.args.sels.now) c.args.standing.goals) c.requires c.in_ok-next.ensures

pub returns : goal.returns
returns c = then_follows c.args.standing c.in_ok-next.next (in_order revert_selected (reverse c.args.sels.now) c.args.standing.goals) (in_order (λ x. act (on_goal (revert_var x))) (reverse c.args.names.now)) c.revert_vars.result c.in_ok-next.ensures c.revert_vars.ensures
