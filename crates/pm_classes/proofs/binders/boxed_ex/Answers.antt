use Rattle.std.proofs.Common.{rules, ◌≡◌, sym, subst}
use Rattle.pm_logic.specs.declared.formula.Formula.TheViews as view
use Rattle.pm_logic.specs.Bounds.{IsBounded}
use Rattle.pm_classes.proofs.Bound.{ex_boxed_bounded, ex_outer, ex_hole, onward_known, boxed_ex_done}
use Rattle.pm_classes.proofs.binders.boxed_ex.Goals as goal

pub eliminate-requires-clause-bounded : goal.eliminate-requires-clause-bounded
eliminate-requires-clause-bounded c = let is : c.in_ok-right.right ≡ view.Pers (view.Ex c.args.b.now) = search rules in subst IsBounded (sym is) (ex_boxed_bounded c.args.vars c.args.b.now c.requires.handed)

pub fill-requires : goal.fill-requires
fill-requires c =
    let r : c.in_ok-right.right ≡ view.Pers (view.Ex c.args.b.now) = search rules in
    let outer = ex_outer c.args.vars c.args.b.now c.in_ok-right.right c.in_ok-outer.outer r c.in_ok-outer.ensures in
    let under = (onward_known c.args.vars c.args.b.now c.in_ok-opened.opened.formula c.in_ok-opened.opened.proof c.args.inner c.in_ok-under.under c.in_ok-opened.ensures.formula c.in_ok-opened.ensures.proof c.requires.inner c.in_ok-under.ensures) in
    ex_hole c.args.vars c.args.b.now c.in_ok-outer.outer c.in_ok-under.under outer under

pub returns : goal.returns
returns c =
    let r : c.in_ok-right.right ≡ view.Pers (view.Ex c.args.b.now) = search rules in
    let outer = ex_outer c.args.vars c.args.b.now c.in_ok-right.right c.in_ok-outer.outer r c.in_ok-outer.ensures in
    let under = (onward_known c.args.vars c.args.b.now c.in_ok-opened.opened.formula c.in_ok-opened.opened.proof c.args.inner c.in_ok-under.under c.in_ok-opened.ensures.formula c.in_ok-opened.ensures.proof c.requires.inner c.in_ok-under.ensures) in
    boxed_ex_done c.args.vars c.args.b.now c.in_ok-outer.outer c.in_ok-under.under c.fill.result outer under c.fill.ensures.proves
