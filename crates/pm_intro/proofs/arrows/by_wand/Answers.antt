use Rattle.std.proofs.Common.{sym, ap, ◌∙◌}
use Rattle.pm_table.specs.Introductions as table
use Rattle.pm_table.specs.Outcomes.{one}
use Rattle.pm_table.specs.Limits.{all_nodes, work_formulas}
use Rattle.pm_intro.proofs.Answered.{answers_one}
use Rattle.pm_intro.proofs.LeftSides.{wand_row}
use Rattle.pm_intro.proofs.arrows.by_wand.Goals as goal

pub returns : goal.returns
returns c = answers_one (all_nodes (work_formulas c.args.work.now)) c.args.work.now c.in_ok-new.new (table.intro_hyp c.args.work.now) c.in_ok-proof.proof c.finish_one.result (wand_row c.args.work.now c.args.a.now c.args.b.now c.requires.concl ∙ ap one (sym c.in_ok-new.ensures)) c.finish_one.ensures c.in_ok-proof.ensures
