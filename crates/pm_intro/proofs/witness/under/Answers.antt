use Rattle.std.proofs.Common.{ℕ, ◌+◌, ◌∙◌, [], ◌∷◌, ap, sym, subst}
use Rattle.pm_logic.specs.declared.formula.Formula.TheViews as view
use Rattle.pm_proof.specs.Trees.{entail}
use Rattle.pm_schemes.specs.Sketches.{deepest}
use Rattle.pm_intro.specs.Closing.{Closes}
use Rattle.pm_intro.proofs.Openings.{lifted_few, lifted_small, same_vars, has_more, gap_as, under_as}
use Rattle.pm_intro.proofs.witness.under.Goals as goal

pub reach-requires-clause-few : goal.reach-requires-clause-few
reach-requires-clause-few c = lifted_few c.args.work.now c.requires.some c.requires.handed c.args.name.now c.in_ok-lifted.lifted c.in_ok-lifted.ensures

pub reach-requires-clause-vars : goal.reach-requires-clause-vars
reach-requires-clause-vars c = same_vars c.args.work.now c.requires.some c.requires.handed c.args.name.now c.in_ok-lifted.lifted c.in_ok-lifted.ensures c.args.new.now c.requires.vars

pub reach-requires-clause-small : goal.reach-requires-clause-small
reach-requires-clause-small c = lifted_small c.args.work.now c.requires.some c.requires.handed c.args.name.now c.in_ok-lifted.lifted c.in_ok-lifted.ensures

pub reach-requires-clause-more : goal.reach-requires-clause-more
reach-requires-clause-more c = has_more c.args.work.now c.requires.some c.requires.handed c.args.name.now c.in_ok-lifted.lifted c.in_ok-lifted.ensures c.args.part.now c.args.new.now c.requires.more

pub curried-requires : goal.curried-requires
curried-requires c =
    gap_as c.args.work.now c.requires.some c.requires.handed c.args.name.now c.in_ok-lifted.lifted c.in_ok-lifted.ensures c.args.part.now c.in_ok-star.star c.args.new.now c.in_ok-reached.reached c.requires.vars c.in_ok-star.ensures c.in_ok-reached.ensures
    ∙ ap (λ (k : ℕ). entail (k + 1) (view.Sep c.args.part.now c.in_ok-star.star) c.args.new.now.goal.concl) (sym c.len-vars.ensures)

pub returns : goal.returns
returns c =
    let b = c.args.part.now in
    let st = c.in_ok-star.star in
    let concl = c.args.new.now.goal.concl in
    under_as c.args.work.now c.requires.some c.requires.handed c.args.name.now c.in_ok-lifted.lifted c.in_ok-lifted.ensures b st c.args.new.now c.in_ok-reached.reached c.in_ok-proof.proof c.requires.more c.requires.vars c.requires.concl c.in_ok-star.ensures c.in_ok-reached.ensures
    (subst (λ (k : ℕ). Closes c.in_ok-reached.reached (entail (k + 1) b (view.Wand st concl)) 1 (deepest (b ∷ st ∷ concl ∷ []) [] + 1) (k + 1) c.in_ok-proof.proof) c.len-vars.ensures c.in_ok-proof.ensures)
