use Rattle.std.proofs.Common.{rules}
use Rattle.pm_table.specs.Running.{act}
use Rattle.pm_table.specs.Basic.{on_goal, revert_var}
use Rattle.pm_sweep.proofs.Following.{stands_after}
use Rattle.pm_directives.proofs.Chained.{ends_back, goes_back}
use Rattle.pm_directives.proofs.introducing.+revert_vars.Goals as goal

pub returns-in_err-next-in-len1-up : goal.returns-in_err-next-in-len1-up
returns-in_err-next-in-len1-up t c = ends_back (λ x. act (on_goal (revert_var x))) c.args.standing c.args.names.now c.name-item.result c.from_residual.result c.in_err-next-in-len1-up.field-0.0 c.in-len1-up.len_at_least c.name-item.is (search rules) c.in_err-next-in-len1-up.ensures

pub revert_vars-requires : goal.revert_vars-requires
revert_vars-requires t c = (search rules, stands_after c.args.standing c.in_ok-next-in-len1-up.next (act (on_goal (revert_var c.name-item.result)) c.args.standing.goals) c.requires c.in_ok-next-in-len1-up.ensures)

pub returns-in_ok-next-in-len1-up : goal.returns-in_ok-next-in-len1-up
returns-in_ok-next-in-len1-up t c = goes_back (λ x. act (on_goal (revert_var x))) c.args.standing c.in_ok-next-in-len1-up.next c.args.names.now c.name-item.result c.revert_vars.result c.in-len1-up.len_at_least c.name-item.is c.in_ok-next-in-len1-up.ensures c.revert_vars.ensures
