use Rattle.std.proofs.Common.{subst}
use Rattle.pm_table.specs.Limits.{all_nodes, work_formulas, limited}
use Rattle.pm_table.specs.Introductions as table
use Rattle.pm_action.specs.Acting.{Answers}
use Rattle.pm_intro.proofs.Generals.{findable}
use Rattle.pm_intro.proofs.universal.intro_all_fresh.Goals as goal

pub fresh_name-requires : goal.fresh_name-requires
fresh_name-requires c = findable c.args.work.now c.requires.handed

pub returns : goal.returns
returns c =
    subst (λ n. Answers (all_nodes (work_formulas c.args.work.now)) c.args.work.now (limited (table.intro_all n c.args.work.now)) c.intro_all.result) c.in_ok-name.ensures c.intro_all.ensures
