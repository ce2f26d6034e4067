use Rattle.std.proofs.Common.{subst}
use Rattle.pm_table.specs.Limits.{all_nodes, work_formulas, limited}
use Rattle.pm_table.specs.Destructs as table
use Rattle.pm_action.specs.Acting.{Answers}
use Rattle.pm_hand.proofs.purity.to_pure_fresh.Goals as goal

pub returns : goal.returns
returns c =
    subst (λ n. Answers (all_nodes (work_formulas c.args.work.now)) c.args.work.now (limited (table.to_pure n c.args.work.now)) c.to_pure.result) c.in_ok-name.ensures c.to_pure.ensures
