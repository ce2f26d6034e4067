use Rattle.pm_table.specs.Introductions as table
use Rattle.pm_table.specs.Limits.{all_nodes, work_formulas}
use Rattle.pm_goal.specs.declared.refusal.Row.TheVariants.{NoHypothesisToIntroduce}
use Rattle.pm_intro.proofs.Answered.{refuses_plain}
use Rattle.pm_intro.proofs.LeftSides.{other_row}
use Rattle.pm_intro.proofs.arrows.intro_hyp.Goals as goal

pub returns-in_default : goal.returns-in_default
returns-in_default c = refuses_plain (all_nodes (work_formulas c.args.work.now)) c.args.work.now (table.intro_hyp c.args.work.now) NoHypothesisToIntroduce c.refuse_plain.result (other_row c.args.work.now c.in_default.not-Wand c.in_default.not-Imp) c.refuse_plain.ensures
