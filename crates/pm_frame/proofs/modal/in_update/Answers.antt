use Rattle.std.proofs.Common.{◌+◌, [], ◌∷◌, Some, None, arith, sym, ◌∙◌}
use Rattle.pm_logic.specs.declared.formula.Formula.TheViews as view
use Rattle.pm_schemes.specs.Sketches.{deepest}
use Rattle.pm_classes.proofs.Sizes.{depth_upd, nodes_upd, has_levels}
use Rattle.pm_frame.proofs.Parts.{at, above_none, kept_done, gone_done}
use Rattle.pm_frame.proofs.modal.in_update.Goals as goal

pub returns-in_default : goal.returns-in_default
returns-in_default c = above_none view.Upd c.args.vars c.args.r.now c.args.r.now c.args.a.now (view.Upd c.args.a.now) (at c.args.vars c.args.r.now c.args.a.now c.args.x None c.in_default.is c.requires)

pub returns-then-is_truth : goal.returns-then-is_truth
returns-then-is_truth c = gone_done view.Upd c.args.vars 2 (deepest (c.args.r.now ∷ c.args.a.now ∷ []) [] + 3) c.args.r.now c.args.r.now c.args.a.now (view.Upd c.args.a.now) c.in-Some.x c.in_ok-whole.whole (at c.args.vars c.args.r.now c.args.a.now c.args.x (Some c.in-Some.x) c.in-Some.is c.requires) (sym c.is_truth.ensures ∙ c.if-is_truth.true) c.in_ok-whole.ensures.rest c.in_ok-whole.ensures.proof (omega arith) (omega (arith, depth_upd c.args.a.now, has_levels c.args.a.now)) (omega (arith, nodes_upd c.args.a.now)) (omega (arith, depth_upd c.args.a.now)) (omega (arith))

pub returns : goal.returns
returns c = kept_done view.Upd c.args.vars 3 (deepest (c.args.r.now ∷ c.args.a.now ∷ c.in-Some.x.rest ∷ []) [] + 2) c.args.r.now c.args.r.now c.args.a.now (view.Upd c.args.a.now) c.in-Some.x c.in_ok-whole-2.whole (at c.args.vars c.args.r.now c.args.a.now c.args.x (Some c.in-Some.x) c.in-Some.is c.requires) (sym c.is_truth.ensures ∙ c.if-is_truth.false) c.in_ok-whole-2.ensures.rest c.in_ok-whole-2.ensures.proof (omega arith) (λ deep. omega (arith, depth_upd c.args.a.now, has_levels c.args.a.now, deep)) (omega (arith, nodes_upd c.args.a.now)) (omega (arith, depth_upd c.args.a.now)) (omega (arith))
