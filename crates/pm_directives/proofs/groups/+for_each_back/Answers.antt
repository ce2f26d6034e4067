use Rattle.std.proofs.Common.{rules}
use Rattle.pm_table.specs.Running.{act}
use Rattle.pm_directives.specs.Groups.{each_action}
use Rattle.pm_sweep.proofs.Following.{stands_after}
use Rattle.pm_directives.proofs.Chained.{ends_back, goes_back}
use Rattle.pm_directives.proofs.groups.+for_each_back.Goals as goal

pub returns-in_err-next-in-len1-up : goal.returns-in_err-next-in-len1-up
returns-in_err-next-in-len1-up t c = ends_back (λ h. act (each_action c.args.each h)) c.args.standing c.args.names.now c.name-item.result c.from_residual.result c.in_err-next-in-len1-up.field-0.0 c.in-len1-up.len_at_least c.name-item.is (search rules) c.in_err-next-in-len1-up.ensures

pub for_each_back-requires : goal.for_each_back-requires
for_each_back-requires t c = (search rules, stands_after c.args.standing c.in_ok-next-in-len1-up.next (act (each_action c.args.each c.name-item.result) c.args.standing.goals) c.requires c.in_ok-next-in-len1-up.ensures)

pub returns-in_ok-next-in-len1-up : goal.returns-in_ok-next-in-len1-up
returns-in_ok-next-in-len1-up t c = goes_back (λ h. act (each_action c.args.each h)) c.args.standing c.in_ok-next-in-len1-up.next c.args.names.now c.name-item.result c.for_each_back.result c.in-len1-up.len_at_least c.name-item.is c.in_ok-next-in-len1-up.ensures c.for_each_back.ensures
