use Rattle.std.proofs.Common.{◌+◌, ◌∙◌, sym, ap}
use Rattle.pm_logic.specs.declared.formula.Formula.TheVariants.{Pts}
use Rattle.pm_logic.specs.declared.formula.Formula.TheViews as view
use Rattle.pm_logic.specs.declared.formula.TheConstants.{UNIT}
use Rattle.pm_logic.specs.Size.{term_nodes}
use Rattle.pm_table.specs.Basic.{gives_goal}
use Rattle.pm_table.specs.Heap as table
use Rattle.pm_table.specs.Limits.{all_nodes, work_formulas}
use Rattle.pm_heap.proofs.Written.{not_update, is_update, plain_refused, plain_given}
use Rattle.pm_heap.proofs.writing.write_full.Goals as goal

pub write_under-requires-clause-concl : goal.write_under-requires-clause-concl
write_under-requires-clause-concl c = c.in-Upd.is ∙ ap view.Upd (sym c.get.ensures)

pub returns-in-Upd : goal.returns-in-Upd
returns-in-Upd c =
    plain_given (all_nodes (work_formulas c.args.work.now) + term_nodes c.args.term.now) c.args.work.now (gives_goal (table.put c.args.name.now (Pts c.args.loc.now UNIT c.args.term.now) c.args.work.now.goal)) c.write_under.result
    (is_update c.args.work.now.goal.concl c.get.result.now (c.in-Upd.is ∙ ap view.Upd (sym c.get.ensures))) c.write_under.ensures

pub returns-in_default : goal.returns-in_default
returns-in_default c =
    plain_refused (all_nodes (work_formulas c.args.work.now) + term_nodes c.args.term.now) c.args.work.now (gives_goal (table.put c.args.name.now (Pts c.args.loc.now UNIT c.args.term.now) c.args.work.now.goal)) c.refuse_plain.result
    (not_update c.args.work.now.goal.concl c.in_default.not-Upd) c.refuse_plain.ensures
