use Rattle.std.proofs.Common.{◌+◌, sym, ◌∙◌}
use Rattle.pm_logic.specs.Size.{term_nodes}
use Rattle.pm_table.specs.Limits.{all_nodes, work_formulas}
use Rattle.pm_heap.proofs.Written.{full_at, location_of, part_location, no_location, row_full, row_part}
use Rattle.pm_heap.proofs.writing.write_at.Goals as goal

pub write_full-requires-clause-at : goal.write_full-requires-clause-at
write_full-requires-clause-at c =
    full_at c.args.work.now.goal c.args.name.now c.args.found.now.place c.args.found.now.formula c.in-Pts.loc c.in-Pts.val c.in-Pts.units c.in-Pts.is (sym c.is_whole.ensures ∙ c.if-is_whole.true) c.requires.at

pub returns-then-is_whole : goal.returns-then-is_whole
returns-then-is_whole c =
    row_full (all_nodes (work_formulas c.args.work.now) + term_nodes c.args.term.now) c.args.work.now c.args.name.now c.args.term.now c.args.found.now.formula c.in-Pts.loc c.write_full.result
    (location_of c.args.found.now.formula c.in-Pts.loc c.in-Pts.val c.in-Pts.units c.in-Pts.is (sym c.is_whole.ensures ∙ c.if-is_whole.true)) c.write_full.ensures

pub returns-else-is_whole : goal.returns-else-is_whole
returns-else-is_whole c =
    row_part (all_nodes (work_formulas c.args.work.now) + term_nodes c.args.term.now) c.args.work.now c.args.name.now c.args.term.now c.args.found.now.formula c.refuse_plain.result
    (part_location c.args.found.now.formula c.in-Pts.loc c.in-Pts.val c.in-Pts.units c.in-Pts.is (sym c.is_whole.ensures ∙ c.if-is_whole.false)) c.refuse_plain.ensures

pub returns-in_default : goal.returns-in_default
returns-in_default c =
    row_part (all_nodes (work_formulas c.args.work.now) + term_nodes c.args.term.now) c.args.work.now c.args.name.now c.args.term.now c.args.found.now.formula c.refuse_plain-in_default.result
    (no_location c.args.found.now.formula c.in_default.not-Pts) c.refuse_plain-in_default.ensures
