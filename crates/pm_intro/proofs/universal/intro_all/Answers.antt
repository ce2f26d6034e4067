use Rattle.pm_goal.specs.declared.refusal.Row.TheVariants.{NoVariableToIntroduce}
use Rattle.pm_table.specs.Introductions as table
use Rattle.pm_table.specs.Limits.{all_nodes, work_formulas}
use Rattle.pm_intro.proofs.Answered.{refuses_plain}
use Rattle.pm_intro.proofs.Generals.{other_row}
use Rattle.pm_intro.proofs.universal.intro_all.Goals as goal

pub returns-in_default : goal.returns-in_default
returns-in_default c = refuses_plain (all_nodes (work_formulas c.args.work.now)) c.args.work.now (table.intro_all c.args.name.now c.args.work.now) NoVariableToIntroduce c.refuse_plain.result (other_row c.args.name.now c.args.work.now c.in_default.not-All) c.refuse_plain.ensures
