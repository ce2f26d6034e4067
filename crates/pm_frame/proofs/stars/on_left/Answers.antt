use Rattle.std.proofs.Common.{◌+◌, [], ◌∷◌, true, false, Some, None, refl, sym, ap, ◌∙◌, arith}
use Rattle.pm_logic.specs.declared.formula.Formula.TheViews as view
use Rattle.pm_schemes.specs.Sketches.{deepest}
use Rattle.pm_classes.proofs.Sizes.{depth_sep, has_levels}
use Rattle.pm_frame.proofs.Parts.{at}
use Rattle.pm_frame.proofs.Starred.{left_done}
use Rattle.pm_frame.proofs.stars.on_left.Goals as goal

pub returns-then-is_truth : goal.returns-then-is_truth
returns-then-is_truth c = left_done c.args.vars 6 (deepest (c.args.r.now ∷ c.args.a.now ∷ c.args.b.now ∷ []) [] + 3) c.args.r.now c.args.a.now c.args.b.now c.args.b.now true c.args.x (record { rest = c.in_ok-rest.rest; proof = c.in_ok-proof.proof }) c.requires (sym c.is_truth.ensures ∙ c.if-is_truth.true) refl c.in_ok-rest.ensures c.in_ok-proof.ensures (omega arith) (λ deep. omega (arith, deep, depth_sep c.args.a.now c.args.b.now, has_levels c.args.a.now))

pub returns : goal.returns
returns c = left_done c.args.vars 4 (deepest (c.args.r.now ∷ c.args.a.now ∷ c.args.b.now ∷ c.args.x.rest ∷ []) [] + 2) c.args.r.now c.args.a.now c.args.b.now (view.Sep c.args.x.rest c.args.b.now) false c.args.x (record { rest = c.in_ok-rest-2.rest; proof = c.in_ok-proof-2.proof }) c.requires (sym c.is_truth.ensures ∙ c.if-is_truth.false) refl (c.in_ok-rest-2.ensures ∙ ap (view.Sep c.args.x.rest) c.in_ok-copy.ensures) c.in_ok-proof-2.ensures (omega arith) (λ deep. omega (arith, deep, depth_sep c.args.a.now c.args.b.now, has_levels c.args.a.now))
