use Rattle.std.proofs.Common.{sym, ◌∙◌, ap₂}
use Rattle.std.specs.Option.{option_copied}
use Rattle.pm_logic.specs.declared.formula.Formula.TheViews as view
use Rattle.pm_table.specs.Limits.{work_formulas, all_nodes}
use Rattle.pm_basic.proofs.Dealt.{not_a_star, all_dealt, not_dealt}
use Rattle.pm_basic.proofs.dealing.split_at.Goals as goal

pub returns-in_default : goal.returns-in_default
returns-in_default c = not_a_star (all_nodes (work_formulas c.args.work.now)) c.args.work.now c.args.left (option_copied c.args.names) c.requires.nothing c.refuse_plain.result c.in_default.not-Sep c.refuse_plain.ensures

pub deal-requires-clause-concl : goal.deal-requires-clause-concl
deal-requires-clause-concl c = c.in-Sep.is ∙ ap₂ view.Sep (sym c.get.ensures) (sym c.get-in-Ok.ensures)

pub returns-in-Ok : goal.returns-in-Ok
returns-in-Ok c =
    all_dealt (all_nodes (work_formulas c.args.work.now)) c.args.work.now c.args.left (option_copied c.args.names) c.requires.nothing c.get.result.now c.get-in-Ok.result.now c.deal.result
    (c.in-Sep.is ∙ ap₂ view.Sep (sym c.get.ensures) (sym c.get-in-Ok.ensures)) c.in-Ok.ensures c.deal.ensures

pub returns-in-Err : goal.returns-in-Err
returns-in-Err c = not_dealt (all_nodes (work_formulas c.args.work.now)) c.args.work.now c.args.left (option_copied c.args.names) c.requires.nothing c.in-Sep.a c.in-Sep.b c.in-Err.fault c.in-Sep.is c.in-Err.ensures
