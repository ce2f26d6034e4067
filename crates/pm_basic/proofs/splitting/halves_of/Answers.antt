use Rattle.std.proofs.Common.{sym, ◌∙◌, ap₂, subst}
use Rattle.pm_logic.specs.declared.formula.Formula.TheViews as view
use Rattle.pm_classes.specs.Entries.{IsHanded}
use Rattle.pm_basic.proofs.Splits.{formula_and, formula_no_half}
use Rattle.pm_basic.proofs.splitting.halves_of.Goals as goal

pub in_and-requires : goal.in_and-requires
in_and-requires c = c.in-And.is ∙ ap₂ view.And (sym c.get.ensures) (sym c.get-in-And.ensures)

pub returns-in_ok-entry-in-And : goal.returns-in_ok-entry-in-And
returns-in_ok-entry-in-And c =
    formula_and c.args.vars c.args.concl.now c.get.result.now c.get-in-And.result.now c.in_ok-entry-in-And.entry (c.in-And.is ∙ ap₂ view.And (sym c.get.ensures) (sym c.get-in-And.ensures)) c.in_ok-entry-in-And.ensures

pub halves_of_star-requires : goal.halves_of_star-requires
halves_of_star-requires c = subst (IsHanded c.args.vars) (c.in-Sep.is ∙ ap₂ view.Sep (sym c.get-in-Sep.ensures) (sym c.get-in-Sep-2.ensures)) c.requires

pub returns-in_default : goal.returns-in_default
returns-in_default c = formula_no_half c.args.vars c.args.concl.now c.in_default.not-And c.in_default.not-Pure c.in_default.not-Sep
