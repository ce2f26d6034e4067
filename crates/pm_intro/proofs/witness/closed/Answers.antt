use Rattle.std.proofs.Common.{ℕ, ◌+◌, ◌∙◌, [], ◌∷◌, max, length, ap, subst, refl}
use Rattle.pm_logic.specs.declared.formula.Formula.TheViews as view
use Rattle.pm_logic.specs.Substitution.{shift_of}
use Rattle.pm_goal.specs.declared.work.Work.{Work}
use Rattle.pm_goal.specs.Left.{left_of_work}
use Rattle.pm_proof.specs.Trees.{entail, side_depth}
use Rattle.pm_proof.specs.Known.{Proves, Every}
use Rattle.pm_schemes.specs.Sketches.{deepest}
use Rattle.pm_intro.specs.Closing.{Closes}
use Rattle.pm_intro.proofs.Handed.{has_last}
use Rattle.pm_intro.proofs.Openings.{wand_bounded, closed_hole, inner_says, opened_known}
use Rattle.pm_intro.proofs.witness.closed.Goals as goal

pub eliminate-requires-clause-bounded : goal.eliminate-requires-clause-bounded
eliminate-requires-clause-bounded c =
    let w = c.args.work.now in
    let l = has_last w c.requires.some in
    wand_bounded w l.0 l.1 [] c.args.part.now c.args.new.now c.in_ok-star.star w.goal.concl c.in_ok-goal.goal c.requires.handed (c.in_ok-star.ensures ∙ ap (λ (x : Work). left_of_work x) c.in_ok-rest.ensures) refl c.in_ok-goal.ensures

pub fill-inner-requires : goal.fill-inner-requires
fill-inner-requires c =
    let w = c.args.work.now in
    let l = has_last w c.requires.some in
    let n = length w.goal.vars in
    let b = c.args.part.now in
    let g = c.in_ok-goal.goal in
    closed_hole w l.0 l.1 [] b c.args.new.now c.in_ok-star.star g c.args.under c.in_ok-step.step 1 (max (side_depth (entail n (view.Ex b) g)) (side_depth (entail (n + 1) b (shift_of g)))) (n + 1) (c.in_ok-star.ensures ∙ ap (λ (x : Work). left_of_work x) c.in_ok-rest.ensures) c.in_ok-goal.ensures c.requires.under
    (subst (λ (k : ℕ). Proves Every (entail k (view.Ex b) g) (entail (k + 1) b (shift_of g) ∷ []) 1 (max (side_depth (entail k (view.Ex b) g)) (side_depth (entail (k + 1) b (shift_of g)))) (k + 1) c.in_ok-step.step) c.len-vars.ensures c.in_ok-step.ensures)

pub applied-requires : goal.applied-requires
applied-requires c =
    let w = c.args.work.now in
    let l = has_last w c.requires.some in
    let n = length w.goal.vars in
    let b = c.args.part.now in
    let g = c.in_ok-goal.goal in
    inner_says c.len-vars.result b c.in_ok-star.star w.goal.concl g c.in_ok-all.all c.args.under c.in_ok-step.step c.fill-inner.result c.fill-inner.ensures.tree
    (closed_hole w l.0 l.1 [] b c.args.new.now c.in_ok-star.star g c.args.under c.in_ok-step.step 1 (max (side_depth (entail n (view.Ex b) g)) (side_depth (entail (n + 1) b (shift_of g)))) (n + 1) (c.in_ok-star.ensures ∙ ap (λ (x : Work). left_of_work x) c.in_ok-rest.ensures) c.in_ok-goal.ensures c.requires.under
    (subst (λ (k : ℕ). Proves Every (entail k (view.Ex b) g) (entail (k + 1) b (shift_of g) ∷ []) 1 (max (side_depth (entail k (view.Ex b) g)) (side_depth (entail (k + 1) b (shift_of g)))) (k + 1) c.in_ok-step.step) c.len-vars.ensures c.in_ok-step.ensures))
    c.in_ok-step.ensures.concludes c.in_ok-goal.ensures c.in_ok-all.ensures

pub returns : goal.returns
returns c =
    let w = c.args.work.now in
    let l = has_last w c.requires.some in
    let b = c.args.part.now in
    let g = c.in_ok-goal.goal in
    let st = c.in_ok-star.star in
    let all = c.in_ok-all.all in
    opened_known w l.0 l.1 [] b c.args.new.now st g all c.args.under c.in_ok-step.step c.fill-inner.result c.in_ok-proof.proof c.requires.more c.requires.vars c.requires.concl (c.in_ok-star.ensures ∙ ap (λ (x : Work). left_of_work x) c.in_ok-rest.ensures) c.in_ok-goal.ensures c.in_ok-all.ensures c.requires.under
    (subst (λ (k : ℕ). Proves Every (entail k (view.Ex b) g) (entail (k + 1) b (shift_of g) ∷ []) 1 (max (side_depth (entail k (view.Ex b) g)) (side_depth (entail (k + 1) b (shift_of g)))) (k + 1) c.in_ok-step.step) c.len-vars.ensures c.in_ok-step.ensures)
    c.fill-inner.ensures.proves
    (subst (λ (k : ℕ). Closes c.fill-inner.result (entail k (view.Sep all st) w.goal.concl) 1 (deepest (all ∷ st ∷ w.goal.concl ∷ []) [] + 1) k c.in_ok-proof.proof) c.len-vars.ensures c.in_ok-proof.ensures)
