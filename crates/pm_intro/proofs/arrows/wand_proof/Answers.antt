use Rattle.std.proofs.Common.{ℕ, ◌+◌, [], ◌∷◌, sym, ap, subst, ◌∙◌}
use Rattle.pm_logic.specs.declared.formula.Formula.TheViews as view
use Rattle.pm_goal.specs.declared.work.Work.{Work}
use Rattle.pm_proof.specs.Trees.{entail}
use Rattle.pm_schemes.specs.Sketches.{deepest}
use Rattle.pm_table.specs.Limits.{all_nodes, work_formulas}
use Rattle.pm_table.specs.declared.place.Place.TheVariants.{Current as current}
use Rattle.pm_action.specs.Acting.{IsActed}
use Rattle.pm_intro.specs.Closing.{Closes}
use Rattle.pm_intro.specs.Ending.{HasMore, Reaches}
use Rattle.pm_intro.proofs.LeftSides.{gap, introduces, wand_acts}
use Rattle.pm_intro.proofs.arrows.wand_proof.Goals as goal

pub reach-requires-clause-more : goal.reach-requires-clause-more
reach-requires-clause-more c = subst (λ (x : Work). HasMore c.args.work.now c.args.a.now x) (sym c.requires.new) (introduces c.args.work.now c.args.a.now c.args.b.now)

pub to_wand-requires : goal.to_wand-requires
to_wand-requires c =
    gap c.args.work.now c.args.a.now c.args.b.now c.in_ok-star.star c.in_ok-reached.reached c.in_ok-star.ensures (subst (λ (x : Work). Reaches c.args.work.now c.args.a.now x c.in_ok-reached.reached) c.requires.new c.in_ok-reached.ensures)
    ∙ ap (λ (k : ℕ). entail k (view.Sep c.args.a.now c.in_ok-star.star) c.args.b.now) (sym c.len-vars.ensures)

pub returns : goal.returns
returns c =
    let a = c.args.a.now in
    let b = c.args.b.now in
    let st = c.in_ok-star.star in
    let closes = subst (λ (k : ℕ). Closes c.in_ok-reached.reached (entail k st (view.Wand a b)) 3 (deepest (a ∷ b ∷ st ∷ []) [] + 1) k c.in_ok-proof.proof) c.len-vars.ensures c.in_ok-proof.ensures in
    subst (λ (x : Work). IsActed (all_nodes (work_formulas c.args.work.now)) c.args.work.now (current [] x ∷ []) c.in_ok-proof.proof) (sym c.requires.new)
    (wand_acts c.args.work.now a b st c.in_ok-reached.reached c.in_ok-proof.proof c.requires.concl c.in_ok-star.ensures
    (subst (λ (x : Work). Reaches c.args.work.now a x c.in_ok-reached.reached) c.requires.new c.in_ok-reached.ensures) closes)
