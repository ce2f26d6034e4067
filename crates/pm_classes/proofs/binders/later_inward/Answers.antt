use Rattle.std.proofs.Common.{rules, ◌≡◌, sym, subst}
use Rattle.pm_logic.specs.declared.formula.Formula.TheViews as view
use Rattle.pm_logic.specs.Bounds.{IsBounded}
use Rattle.pm_classes.proofs.Bound.{Inward, inward_outer, inward_hole, inward_under, inward_bounded, inward_done, later_in}
use Rattle.pm_classes.proofs.Undone.{shift_later}
use Rattle.pm_classes.proofs.Sizes.{depth_later}
use Rattle.pm_classes.proofs.binders.later_inward.Goals as goal

pub generalize-requires-clause-bounded : goal.generalize-requires-clause-bounded
generalize-requires-clause-bounded c = let is : c.in_ok-left.left ≡ view.Later (view.All c.args.b.now) = search rules in subst IsBounded (sym is) (inward_bounded view.Later c.args.vars c.args.b.now depth_later later_in c.requires)

pub fill-requires : goal.fill-requires
fill-requires c =
    let l : c.in_ok-left.left ≡ view.Later (view.All c.args.b.now) = search rules in
    let b : c.in_ok-body.body ≡ view.Later c.args.b.now = search rules in
    let outer : Inward view.Later c.args.vars c.args.b.now c.in_ok-outer.outer = inward_outer view.Later c.args.vars c.args.b.now c.in_ok-left.left c.in_ok-body.body c.in_ok-outer.outer l b c.in_ok-outer.ensures in
    let under = (inward_under view.Later c.args.vars c.args.b.now c.in_ok-opened.opened.formula c.in_ok-opened.opened.proof c.in_ok-under.under shift_later c.in_ok-opened.ensures.formula c.in_ok-opened.ensures.proof c.in_ok-under.ensures) in
    inward_hole view.Later c.args.vars c.args.b.now c.in_ok-outer.outer c.in_ok-under.under outer under

pub returns : goal.returns
returns c =
    let l : c.in_ok-left.left ≡ view.Later (view.All c.args.b.now) = search rules in
    let b : c.in_ok-body.body ≡ view.Later c.args.b.now = search rules in
    let outer : Inward view.Later c.args.vars c.args.b.now c.in_ok-outer.outer = inward_outer view.Later c.args.vars c.args.b.now c.in_ok-left.left c.in_ok-body.body c.in_ok-outer.outer l b c.in_ok-outer.ensures in
    let under = (inward_under view.Later c.args.vars c.args.b.now c.in_ok-opened.opened.formula c.in_ok-opened.opened.proof c.in_ok-under.under shift_later c.in_ok-opened.ensures.formula c.in_ok-opened.ensures.proof c.in_ok-under.ensures) in
    inward_done view.Later c.args.vars c.args.b.now c.in_ok-outer.outer c.in_ok-under.under c.fill.result depth_later outer under c.fill.ensures.proves
