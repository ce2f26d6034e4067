use Rattle.std.proofs.Common.{ℕ, ◌+◌, [], ◌∷◌, ap, subst, ◌∙◌}
use Rattle.pm_logic.specs.declared.formula.Formula.TheViews as view
use Rattle.pm_rules.specs.declared.rules.Entail.{Entail}
use Rattle.pm_goal.specs.Left.{left_of_work}
use Rattle.pm_goal.specs.declared.work.Work.{Work}
use Rattle.pm_proof.specs.Trees.{entail}
use Rattle.pm_schemes.specs.Sketches.{deepest}
use Rattle.pm_intro.specs.Closing.{Closes}
use Rattle.pm_intro.proofs.InFront.{beside_known}
use Rattle.pm_intro.proofs.fronts.beside_rest.Goals as goal

pub returns : goal.returns
returns c =
    let part = c.in_ok-part.part in
    let right = c.in_ok-right.right in
    let st = c.in_ok-star.star in
    let closes = subst (λ (k : ℕ). Closes c.args.by (entail k (view.Sep part st) (view.Sep right st)) 2 (deepest (part ∷ right ∷ st ∷ []) [] + 1) k c.in_ok-proof.proof) c.len-vars.ensures c.in_ok-proof.ensures in
    beside_known c.args.work.now c.args.held.now c.requires.last part right st c.args.by c.in_ok-proof.proof c.in_ok-part.ensures
    (c.in_ok-right.ensures ∙ ap (λ (e : Entail). e.right) c.conclusion.ensures)
    (c.in_ok-star.ensures ∙ ap (λ (w : Work). left_of_work w) c.in_ok-rest.ensures) c.requires.proof closes
