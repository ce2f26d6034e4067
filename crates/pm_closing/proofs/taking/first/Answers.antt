use Rattle.std.proofs.Common.{refl, sym, ap₂, ◌∙◌}
use Rattle.pm_logic.specs.declared.formula.Formula.TheViews as view
use Rattle.pm_closing.proofs.Taken.{first_done}
use Rattle.pm_closing.proofs.taking.first.Goals as goal

pub returns : goal.returns
returns c =
    first_done c.args.by c.in_ok-step-in-Sep.step c.fill.result c.conclusion-e.result.now c.conclusion-e.result.now.vars c.conclusion-e.result.now.left c.get.result.now c.get-in-Sep.result.now
    (sym c.conclusion-e.ensures) refl refl (c.in-Sep.is ∙ ap₂ view.Sep (sym c.get.ensures) (sym c.get-in-Sep.ensures)) c.in_ok-step-in-Sep.ensures c.fill.ensures.extends
