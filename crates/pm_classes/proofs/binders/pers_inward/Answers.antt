use Rattle.std.proofs.Common.{rules, ◌≡◌, sym, subst}
use Rattle.pm_logic.specs.declared.formula.Formula.TheViews as view
use Rattle.pm_logic.specs.Bounds.{IsBounded}
use Rattle.pm_classes.proofs.Bound.{Inward, inward_outer, inward_hole, inward_under, inward_bounded, inward_done, pers_in}
use Rattle.pm_classes.proofs.Undone.{shift_pers}
use Rattle.pm_classes.proofs.Sizes.{depth_pers}
use Rattle.pm_classes.proofs.binders.pers_inward.Goals as goal

pub generalize-requires-clause-bounded : goal.generalize-requires-clause-bounded
generalize-requires-clause-bounded c = let is : c.in_ok-left.left ≡ view.Pers (view.All c.args.b.now) = search rules in subst IsBounded (sym is) (inward_bounded view.Pers c.args.vars c.args.b.now depth_pers pers_in c.requires)

pub fill-requires : goal.fill-requires
fill-requires c =
    let l : c.in_ok-left.left ≡ view.Pers (view.All c.args.b.now) = search rules in
    let b : c.in_ok-body.body ≡ view.Pers c.args.b.now = search rules in
    let outer : Inward view.Pers c.args.vars c.args.b.now c.in_ok-outer.outer = inward_outer view.Pers c.args.vars c.args.b.now c.in_ok-left.left c.in_ok-body.body c.in_ok-outer.outer l b c.in_ok-outer.ensures in
    let under = (inward_under view.Pers c.args.vars c.args.b.now c.in_ok-opened.opened.formula c.in_ok-opened.opened.proof c.in_ok-under.under shift_pers c.in_ok-opened.ensures.formula c.in_ok-opened.ensures.proof c.in_ok-under.ensures) in
    inward_hole view.Pers c.args.vars c.args.b.now c.in_ok-outer.outer c.in_ok-under.under outer under

pub returns : goal.returns
returns c =
    let l : c.in_ok-left.left ≡ view.Pers (view.All c.args.b.now) = search rules in
    let b : c.in_ok-body.body ≡ view.Pers c.args.b.now = search rules in
    let outer : Inward view.Pers c.args.vars c.args.b.now c.in_ok-outer.outer = inward_outer view.Pers c.args.vars c.args.b.now c.in_ok-left.left c.in_ok-body.body c.in_ok-outer.outer l b c.in_ok-outer.ensures in
    let under = (inward_under view.Pers c.args.vars c.args.b.now c.in_ok-opened.opened.formula c.in_ok-opened.opened.proof c.in_ok-under.under shift_pers c.in_ok-opened.ensures.formula c.in_ok-opened.ensures.proof c.in_ok-under.ensures) in
    inward_done view.Pers c.args.vars c.args.b.now c.in_ok-outer.outer c.in_ok-under.under c.fill.result depth_pers outer under c.fill.ensures.proves
