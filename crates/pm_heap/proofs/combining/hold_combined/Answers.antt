use Rattle.std.proofs.Common.{sym, ◌∙◌}
use Rattle.pm_heap.proofs.Merged.{held_answers}
use Rattle.pm_heap.proofs.combining.hold_combined.Goals as goal

pub returns : goal.returns
returns c =
    held_answers c.args.work.now c.args.a.now c.args.b.now c.args.two.now c.args.formula.now c.in_ok-new.new c.args.moved c.by_move.result c.requires.two (sym c.is_falsehood.ensures ∙ c.if-is_falsehood.false) c.in_ok-new.ensures
    c.requires.moved c.by_move.ensures
