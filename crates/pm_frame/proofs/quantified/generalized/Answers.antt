use Rattle.std.proofs.Common.{rules, ◌≡◌, sym, subst}
use Rattle.pm_logic.specs.declared.formula.Formula.TheViews as view
use Rattle.pm_logic.specs.Bounds.{IsBounded}
use Rattle.pm_frame.proofs.Binding.{all_hole, all_closes}
use Rattle.pm_frame.proofs.quantified.generalized.Goals as goal

pub generalize-requires-clause-bounded : goal.generalize-requires-clause-bounded
generalize-requires-clause-bounded c = let is : c.in_ok-left.left ≡ view.Sep c.args.r.now c.args.g.now = search rules in subst IsBounded (sym is) c.requires.bounded

pub fill-requires : goal.fill-requires
fill-requires c = let is : c.in_ok-left.left ≡ view.Sep c.args.r.now c.args.g.now = search rules in all_hole c.args.vars c.in_ok-left.left c.args.r.now c.args.g.now c.args.a.now c.in_ok-outer.outer c.args.inner is c.in_ok-outer.ensures c.requires.inner

pub returns : goal.returns
returns c = let is : c.in_ok-left.left ≡ view.Sep c.args.r.now c.args.g.now = search rules in all_closes c.args.vars c.in_ok-left.left c.args.r.now c.args.g.now c.args.a.now c.in_ok-outer.outer c.args.inner c.fill.result is c.in_ok-outer.ensures c.requires.inner c.fill.ensures.proves
