use Rattle.std.proofs.Common.{sym, ◌∙◌, ap}
use Rattle.pm_table.specs.Limits.{work_formulas, all_nodes, resting}
use Rattle.pm_basic.proofs.Cleared.{cleared, clear_refused}
use Rattle.pm_basic.proofs.clearing.clear.Goals as goal

pub returns-in_default : goal.returns-in_default
returns-in_default c = clear_refused (all_nodes (work_formulas c.args.work.now)) c.args.work.now c.args.name.now c.refuse.result c.requires.nothing (sym c.in_default.ensures) c.refuse.ensures

pub returns : goal.returns
returns c = cleared c.args.work.now c.args.name.now c.in-Some.place c.requires.nothing c.requires.handed.apart (sym c.in-Some.ensures) c.at_rest-new.result c.in_ok-moved.moved c.by_move.result (c.at_rest-new.ensures ∙ ap resting c.in_ok-goal.ensures) c.in_ok-moved.ensures c.by_move.ensures
