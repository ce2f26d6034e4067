use Rattle.std.proofs.Common.{◌+◌, [], ◌∷◌, true, false, Some, None, refl, sym, ap, ◌∙◌, arith}
use Rattle.pm_logic.specs.declared.formula.Formula.TheViews as view
use Rattle.pm_schemes.specs.Sketches.{deepest}
use Rattle.pm_classes.proofs.Sizes.{depth_sep, has_levels}
use Rattle.pm_frame.proofs.Parts.{at}
use Rattle.pm_frame.proofs.Starred.{right_done, neither_done}
use Rattle.pm_frame.proofs.stars.on_right.Goals as goal

pub returns-in_default : goal.returns-in_default
returns-in_default c = neither_done c.args.vars c.args.r.now c.args.a.now c.args.b.now c.requires.left (at c.args.vars c.args.r.now c.args.b.now c.args.x None c.in_default.is c.requires.right)

pub returns-then-is_truth : goal.returns-then-is_truth
returns-then-is_truth c = right_done c.args.vars 8 (deepest (c.args.r.now ∷ c.args.a.now ∷ c.args.b.now ∷ []) [] + 3) c.args.r.now c.args.a.now c.args.b.now c.args.a.now true c.in-Some.x (record { rest = c.in_ok-rest.rest; proof = c.in_ok-proof.proof }) c.requires.left (at c.args.vars c.args.r.now c.args.b.now c.args.x (Some c.in-Some.x) c.in-Some.is c.requires.right) (sym c.is_truth.ensures ∙ c.if-is_truth.true) refl c.in_ok-rest.ensures c.in_ok-proof.ensures (omega arith) (λ deep. omega (arith, deep, depth_sep c.args.a.now c.args.b.now, has_levels c.args.a.now))

pub returns : goal.returns
returns c = right_done c.args.vars 10 (deepest (c.args.r.now ∷ c.args.a.now ∷ c.args.b.now ∷ c.in-Some.x.rest ∷ []) [] + 2) c.args.r.now c.args.a.now c.args.b.now (view.Sep c.args.a.now c.in-Some.x.rest) false c.in-Some.x (record { rest = c.in_ok-rest-2.rest; proof = c.in_ok-proof-2.proof }) c.requires.left (at c.args.vars c.args.r.now c.args.b.now c.args.x (Some c.in-Some.x) c.in-Some.is c.requires.right) (sym c.is_truth.ensures ∙ c.if-is_truth.false) refl (c.in_ok-rest-2.ensures ∙ ap (λ z. view.Sep z c.in-Some.x.rest) c.in_ok-copy.ensures) c.in_ok-proof-2.ensures (omega arith) (λ deep. omega (arith, deep, depth_sep c.args.a.now c.args.b.now, has_levels c.args.a.now))
