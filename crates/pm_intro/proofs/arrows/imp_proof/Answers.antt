use Rattle.std.proofs.Common.{ℕ, ◌+◌, [], ◌∷◌, sym, ap, subst, ◌∙◌}
use Rattle.pm_logic.specs.declared.formula.Formula.TheViews as view
use Rattle.pm_goal.specs.declared.work.Work.{Work}
use Rattle.pm_proof.specs.Trees.{entail}
use Rattle.pm_schemes.specs.Sketches.{deepest}
use Rattle.pm_table.specs.Limits.{all_nodes, work_formulas}
use Rattle.pm_table.specs.declared.place.Place.TheVariants.{Current as current}
use Rattle.pm_action.specs.Acting.{IsActed}
use Rattle.pm_intro.specs.Closing.{Closes}
use Rattle.pm_intro.specs.Ending.{HasMore, Reaches}
use Rattle.pm_intro.proofs.LeftSides.{introduces, splits_meet, both_gap, imp_acts}
use Rattle.pm_intro.proofs.arrows.imp_proof.Goals as goal

pub reach-requires-clause-more : goal.reach-requires-clause-more
reach-requires-clause-more c = subst (λ (x : Work). HasMore c.args.work.now c.args.a.now x) (sym c.requires.new) (introduces c.args.work.now c.args.a.now c.args.b.now)

pub compose-requires-clause-meet : goal.compose-requires-clause-meet
compose-requires-clause-meet c = splits_meet c.args.work.now c.args.a.now c.args.b.now c.args.split c.in_ok-reached.reached c.requires.split (subst (λ (x : Work). Reaches c.args.work.now c.args.a.now x c.in_ok-reached.reached) c.requires.new c.in_ok-reached.ensures)

pub to_imp-requires : goal.to_imp-requires
to_imp-requires c =
    both_gap c.args.work.now c.args.a.now c.args.b.now c.in_ok-star.star c.args.split c.in_ok-reached.reached c.in_ok-both.both c.in_ok-star.ensures c.requires.split (subst (λ (x : Work). Reaches c.args.work.now c.args.a.now x c.in_ok-reached.reached) c.requires.new c.in_ok-reached.ensures) c.in_ok-both.ensures.follows.concludes
    ∙ ap (λ (k : ℕ). entail k (view.And c.in_ok-star.star c.args.a.now) c.args.b.now) (sym c.len-vars.ensures)

pub returns : goal.returns
returns c =
    let a = c.args.a.now in
    let b = c.args.b.now in
    let st = c.in_ok-star.star in
    let closes = subst (λ (k : ℕ). Closes c.in_ok-both.both (entail k st (view.Imp a b)) 1 (deepest (a ∷ b ∷ st ∷ []) [] + 1) k c.in_ok-proof.proof) c.len-vars.ensures c.in_ok-proof.ensures in
    subst (λ (x : Work). IsActed (all_nodes (work_formulas c.args.work.now)) c.args.work.now (current [] x ∷ []) c.in_ok-proof.proof) (sym c.requires.new)
    (imp_acts c.args.work.now a b st c.args.split c.in_ok-reached.reached c.in_ok-both.both c.in_ok-proof.proof c.requires.concl c.in_ok-star.ensures c.requires.split
    (subst (λ (x : Work). Reaches c.args.work.now a x c.in_ok-reached.reached) c.requires.new c.in_ok-reached.ensures) c.in_ok-both.ensures.proves closes)
