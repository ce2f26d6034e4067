use Rattle.std.proofs.Common.{arith, ap, sym, subst, ◌∙◌, ◌≡◌, Some, refl}
use Rattle.pm_logic.specs.declared.formula.Formula.TheViews as view
use Rattle.pm_proof.specs.Trees.{entail}
use Rattle.pm_proof.specs.Known.{Proves, Every}
use Rattle.pm_goal.specs.Left.{of_kind}
use Rattle.pm_logic.specs.Substitution.{opened_of}
use Rattle.pm_schemes.specs.Sketches.{deepest}
use Rattle.std.specs.Prelude.{[], ◌∷◌, ◌+◌}
use Rattle.pm_hand.proofs.Openings.{bounded, placed, first_hole, opens}
use Rattle.pm_hand.proofs.opening.instance.Goals as goal

pub opened-requires-clause-body : goal.opened-requires-clause-body
opened-requires-clause-body c = bounded c.args.vars c.args.body.now c.requires.scoped c.requires.small

pub opened-requires-clause-term : goal.opened-requires-clause-term
opened-requires-clause-term c = placed c.args.vars c.args.t.now (omega (arith, c.requires.small)) c.requires.term

pub specialize-requires-clause-body : goal.specialize-requires-clause-body
specialize-requires-clause-body c = bounded c.args.vars c.args.body.now c.requires.scoped c.requires.small

pub fill-requires-2 : goal.fill-requires-2
fill-requires-2 c =
    let f = c.args.held.now.formula in
    let u = view.All c.args.body.now in
    let y = opened_of c.args.body.now c.args.t.now in
    let k = c.args.held.now.kind in
    let v = c.args.vars in
    let universal : c.in_ok-universal.universal ≡ u = c.in_ok-universal.ensures ∙ ap view.All c.in_ok-copy.ensures in
    let known : Proves Every (entail v (of_kind k f) (of_kind k y)) (entail v f u ∷ entail v u y ∷ []) 2 (deepest (f ∷ u ∷ y ∷ []) [] + 1) v c.in_ok-step.step = subst (λ z. Proves Every (entail v (of_kind k f) (of_kind k z)) (entail v f u ∷ entail v u z ∷ []) 2 (deepest (f ∷ u ∷ z ∷ []) [] + 1) v c.in_ok-step.step) c.in_ok-formula.ensures (subst (λ x. Proves Every (entail v (of_kind k f) (of_kind k c.in_ok-formula.formula)) (entail v f x ∷ entail v x c.in_ok-formula.formula ∷ []) 2 (deepest (f ∷ x ∷ c.in_ok-formula.formula ∷ []) [] + 1) v c.in_ok-step.step) universal c.in_ok-step.ensures) in
    first_hole v k f c.args.body.now c.args.t.now c.in_ok-step.step c.in_ok-special.special c.args.by c.fill.result c.fill.result known c.in_ok-special.ensures c.requires.says c.fill.ensures.tree

pub returns : goal.returns
returns c =
    let f = c.args.held.now.formula in
    let u = view.All c.args.body.now in
    let y = opened_of c.args.body.now c.args.t.now in
    let k = c.args.held.now.kind in
    let v = c.args.vars in
    let universal : c.in_ok-universal.universal ≡ u = c.in_ok-universal.ensures ∙ ap view.All c.in_ok-copy.ensures in
    let known : Proves Every (entail v (of_kind k f) (of_kind k y)) (entail v f u ∷ entail v u y ∷ []) 2 (deepest (f ∷ u ∷ y ∷ []) [] + 1) v c.in_ok-step.step = subst (λ z. Proves Every (entail v (of_kind k f) (of_kind k z)) (entail v f u ∷ entail v u z ∷ []) 2 (deepest (f ∷ u ∷ z ∷ []) [] + 1) v c.in_ok-step.step) c.in_ok-formula.ensures (subst (λ x. Proves Every (entail v (of_kind k f) (of_kind k c.in_ok-formula.formula)) (entail v f x ∷ entail v x c.in_ok-formula.formula ∷ []) 2 (deepest (f ∷ x ∷ c.in_ok-formula.formula ∷ []) [] + 1) v c.in_ok-step.step) universal c.in_ok-step.ensures) in
    opens v k f c.args.body.now c.args.t.now c.in_ok-step.step c.in_ok-special.special c.args.by c.fill.result c.fill-2.result known c.in_ok-special.ensures c.requires.says c.fill.ensures.tree c.fill-2.ensures.tree c.fill.ensures.proves c.fill-2.ensures.proves
