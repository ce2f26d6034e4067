use Rattle.std.proofs.Common.{ℕ, ◌+◌, ◌∙◌, [], ◌∷◌, sym, ap, subst}
use Rattle.pm_logic.specs.declared.formula.Formula.TheViews as view
use Rattle.pm_proof.specs.Trees.{entail}
use Rattle.pm_schemes.specs.Sketches.{deepest}
use Rattle.pm_intro.specs.Closing.{Closes}
use Rattle.pm_intro.proofs.LeftSides.{own_star, split_star}
use Rattle.pm_intro.proofs.arrows.split_by_star.Goals as goal

pub left_boxed-requires : goal.left_boxed-requires
left_boxed-requires c =
    own_star c.args.work.now c.args.a.now c.args.b.now c.in_ok-star.star c.in_ok-own.own c.requires.nothing c.requires.alone c.in_ok-star.ensures c.in_ok-own.ensures
    ∙ ap (λ (k : ℕ). entail k c.in_ok-star.star (view.Pers c.in_ok-star.star)) (sym c.len-vars.ensures)

pub returns : goal.returns
returns c =
    let a = c.args.a.now in
    let st = c.in_ok-star.star in
    let closes = subst (λ (k : ℕ). Closes c.in_ok-own.own (entail k (view.And st a) (view.Sep a st)) 12 (deepest (a ∷ st ∷ []) [] + 2) k c.in_ok-proof.proof) c.len-vars.ensures c.in_ok-proof.ensures in
    split_star c.args.work.now a c.args.b.now st c.in_ok-own.own c.in_ok-proof.proof c.requires.concl c.requires.nothing c.requires.alone c.in_ok-star.ensures c.in_ok-own.ensures closes
