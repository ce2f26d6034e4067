use Rattle.std.proofs.Common.{◌+◌, ◌≤◌, rules, arith, sym, subst}
use Rattle.pm_logic.specs.declared.formula.Formula.{Formula, the_lemmas}
use Rattle.pm_logic.specs.declared.formula.TheConstants.{BOUND}
use Rattle.pm_logic.specs.Size.{depth_of}
use Rattle.pm_logic.proofs.Sizes.{left_within, right_within}
use Rattle.pm_print.proofs.Joined.{four, five}
use Rattle.pm_print.proofs.FormulaCases.{infix_pieces, prefix_pieces, quantified_pieces}
use Rattle.pm_print.proofs.formulas.+add_formula.Goals as goal

pub add_formula-requires-in-Sep : goal.add_formula-requires-in-Sep
add_formula-requires-in-Sep t c =
    let P : Formula → Type 0 = λ x. c.args.binders + depth_of x ≤ BOUND in
    (search (rules, the_lemmas), subst P (sym c.get-in-Sep.ensures) (left_within c.args.binders BOUND c.args.f.now c.in-Sep.a c.in-Sep.b c.in-Sep.is c.requires))

pub add_formula-requires-in-Sep-2 : goal.add_formula-requires-in-Sep-2
add_formula-requires-in-Sep-2 t c =
    let P : Formula → Type 0 = λ x. c.args.binders + depth_of x ≤ BOUND in
    (search (rules, the_lemmas), subst P (sym c.get-in-Sep-2.ensures) (right_within c.args.binders BOUND c.args.f.now c.in-Sep.a c.in-Sep.b c.in-Sep.is c.requires))

pub returns-in_ok-add_formula-in-Sep-2 : goal.returns-in_ok-add_formula-in-Sep-2
returns-in_ok-add_formula-in-Sep-2 t c =
    five _ _ _ _ _ _ _ _ _ _ _ _ _ c.in_ok-open-in-Sep.ensures c.in_ok-add_formula-in-Sep.ensures c.in_ok-add_sign-in-Sep.ensures c.in_ok-add_formula-in-Sep-2.ensures c.close-in-Sep.ensures
    (infix_pieces _ _ _ _ _ _ _ _ _ c.in-Sep.is c.get-in-Sep.ensures c.get-in-Sep-2.ensures c.formula_shape-shape-in-Sep.ensures)

pub returns-in_ok-add_formula-in-All : goal.returns-in_ok-add_formula-in-All
returns-in_ok-add_formula-in-All t c =
    four _ _ _ _ _ _ _ _ _ _ _ c.in_ok-open-in-All.ensures c.in_ok-add_quantifier-in-All.ensures c.in_ok-add_formula-in-All.ensures c.close-in-All.ensures
    (quantified_pieces _ _ _ _ _ _ _ _ _ c.in-All.is c.get-in-All.ensures c.formula_shape-shape-in-All.ensures (omega arith))

pub returns-in_ok-add_formula-in-Later : goal.returns-in_ok-add_formula-in-Later
returns-in_ok-add_formula-in-Later t c =
    four _ _ _ _ _ _ _ _ _ _ _ c.in_ok-open-in-Later.ensures c.in_ok-add_sign-in-Later.ensures c.in_ok-add_formula-in-Later.ensures c.close.ensures
    (prefix_pieces _ _ _ _ _ _ _ c.in-Later.is c.get.ensures c.formula_shape-shape.ensures)
