use Rattle.std.proofs.Common.{◌+◌, sym, ◌∙◌}
use Rattle.pm_logic.specs.Size.{pure_nodes}
use Rattle.pm_table.specs.Limits.{work_formulas, all_nodes}
use Rattle.pm_pure.proofs.TwoCases.{cases_free, cases_used}
use Rattle.pm_pure.proofs.deciding.cases.Goals as goal

pub returns-then-not-is_free : goal.returns-then-not-is_free
returns-then-not-is_free c =
    cases_used c.args.work.now c.args.p.now c.args.name.now (all_nodes (work_formulas c.args.work.now) + pure_nodes c.args.p.now) c.refuse.result c.requires.nothing (sym c.is_free.ensures ∙ c.if-not-is_free.true) c.refuse.ensures

pub returns : goal.returns
returns c =
    cases_free c.args.work.now c.args.p.now c.args.name.now (all_nodes (work_formulas c.args.work.now) + pure_nodes c.args.p.now) c.decide.result c.requires.nothing (sym c.is_free.ensures ∙ c.if-not-is_free.false) c.decide.ensures
