use Rattle.std.proofs.Common.{rules, ◌≡◌, sym, subst}
use Rattle.pm_logic.specs.declared.formula.Formula.TheViews as view
use Rattle.pm_logic.specs.Bounds.{IsBounded}
use Rattle.pm_classes.proofs.Bound.{all_handed_bounded, boxed_outer, boxed_hole, through_known, inside_known, boxed_all_done}
use Rattle.pm_classes.proofs.binders.boxed_all.Goals as goal

pub generalize-requires-clause-bounded : goal.generalize-requires-clause-bounded
generalize-requires-clause-bounded c = let is : c.in_ok-left.left ≡ view.All c.args.b.now = search rules in subst IsBounded (sym is) (all_handed_bounded c.args.vars c.args.b.now c.requires.handed)

pub fill-inside-requires : goal.fill-inside-requires
fill-inside-requires c =
    let l : c.in_ok-left.left ≡ view.All c.args.b.now = search rules in
    let b : c.in_ok-body.body ≡ view.Pers c.args.b.now = search rules in
    let outer = boxed_outer c.args.vars c.args.b.now c.in_ok-left.left c.in_ok-body.body c.in_ok-outer.outer l b c.in_ok-outer.ensures in
    let under = (through_known c.args.vars c.args.b.now c.in_ok-opened.opened.formula c.in_ok-opened.opened.proof c.args.inner c.in_ok-under.under c.in_ok-opened.ensures.formula c.in_ok-opened.ensures.proof c.requires.inner c.in_ok-under.ensures) in
    boxed_hole c.args.vars c.args.b.now c.in_ok-outer.outer c.in_ok-under.under outer under

pub returns : goal.returns
returns c =
    let l : c.in_ok-left.left ≡ view.All c.args.b.now = search rules in
    let b : c.in_ok-body.body ≡ view.Pers c.args.b.now = search rules in
    let outer = boxed_outer c.args.vars c.args.b.now c.in_ok-left.left c.in_ok-body.body c.in_ok-outer.outer l b c.in_ok-outer.ensures in
    let under = (through_known c.args.vars c.args.b.now c.in_ok-opened.opened.formula c.in_ok-opened.opened.proof c.args.inner c.in_ok-under.under c.in_ok-opened.ensures.formula c.in_ok-opened.ensures.proof c.requires.inner c.in_ok-under.ensures) in
    boxed_all_done c.args.vars c.args.b.now c.fill-inside.result c.in_ok-proof.proof (inside_known c.args.vars c.args.b.now c.in_ok-outer.outer c.in_ok-under.under c.fill-inside.result outer under c.fill-inside.ensures.proves) c.in_ok-proof.ensures
