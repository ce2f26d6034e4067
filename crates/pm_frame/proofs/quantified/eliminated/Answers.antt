use Rattle.std.proofs.Common.{rules, ◌≡◌, sym, subst}
use Rattle.pm_logic.specs.declared.formula.Formula.TheViews as view
use Rattle.pm_logic.specs.Bounds.{IsBounded}
use Rattle.pm_frame.proofs.Binding.{ex_hole, ex_closes}
use Rattle.pm_frame.proofs.quantified.eliminated.Goals as goal

pub eliminate-requires-clause-bounded : goal.eliminate-requires-clause-bounded
eliminate-requires-clause-bounded c = let is : c.in_ok-right.right ≡ view.Wand c.args.r.now (view.Ex c.args.a.now) = search rules in subst IsBounded (sym is) c.requires.bounded

pub fill-requires : goal.fill-requires
fill-requires c = let is : c.in_ok-right.right ≡ view.Wand c.args.r.now (view.Ex c.args.a.now) = search rules in ex_hole c.args.vars c.in_ok-right.right c.args.r.now c.args.g.now c.args.a.now c.in_ok-outer.outer c.args.inner is c.in_ok-outer.ensures c.requires.inner

pub returns : goal.returns
returns c = let is : c.in_ok-right.right ≡ view.Wand c.args.r.now (view.Ex c.args.a.now) = search rules in ex_closes c.args.vars c.in_ok-right.right c.args.r.now c.args.g.now c.args.a.now c.in_ok-outer.outer c.args.inner c.fill.result is c.in_ok-outer.ensures c.requires.inner c.fill.ensures.proves
