use Rattle.std.proofs.Common.{refl, ap, ◌∙◌}
use Rattle.pm_logic.specs.declared.formula.Formula.TheViews as view
use Rattle.pm_star.proofs.Moving.{double_done, behind_slice}
use Rattle.pm_star.proofs.moves.double.Goals as goal

pub returns : goal.returns
returns c =
    double_done c.args.vars c.args.parts.now _ c.args.place c.index-parts-place.result c.in_ok-rest.rest c.in_ok-left.left c.in_ok-right.right c.in_ok-proof.proof c.in_ok-proof-2.proof c.requires.place c.index-parts-place.is (behind_slice c.args.parts.now c.args.place c.in_ok-rest.rest c.in_ok-rest.ensures) refl c.in_ok-left.ensures (c.in_ok-right.ensures ∙ ap (λ y. view.Sep y c.in_ok-rest.rest) c.in_ok-copy.ensures) c.in_ok-proof.ensures c.in_ok-proof-2.ensures
