use Rattle.std.proofs.Common.{sym, ◌∙◌}
use Rattle.pm_table.specs.Limits.{all_nodes, work_formulas}
use Rattle.pm_table.specs.Introductions as introductions
use Rattle.pm_sweep.proofs.Variables.{named_variable, named_left_side}
use Rattle.pm_sweep.proofs.performing.variable.Goals as goal

pub returns-then-is_universal : goal.returns-then-is_universal
returns-then-is_universal c =
    let w = c.args.work.now in
    let s = all_nodes (work_formulas w) in
    named_variable s w c.args.name.now c.opening.result (sym c.is_universal.ensures ∙ c.if-is_universal.true) (c.opening.ensures s w (introductions.intro_all c.args.name.now w) c.intro_all-answered.ensures)

pub returns-else-is_universal : goal.returns-else-is_universal
returns-else-is_universal c =
    named_left_side (all_nodes (work_formulas c.args.work.now)) c.args.work.now c.args.name.now c.left_side.result (sym c.is_universal.ensures ∙ c.if-is_universal.false) c.left_side.ensures
