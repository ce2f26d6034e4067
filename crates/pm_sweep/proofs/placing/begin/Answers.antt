use Rattle.std.proofs.Common.{◌∷◌, [], refl, ◌∙◌, ap₂}
use Rattle.pm_table.specs.declared.place.Place.TheVariants.{Current as current}
use Rattle.pm_sweep.proofs.Acted.{stands_still}
use Rattle.pm_sweep.proofs.placing.begin.Goals as goal

pub returns : goal.returns
returns c =
    let w = c.args.work.now in
    let goals = c.in_ok-parts.ensures.0 ∙ ap₂ (λ ts v. current ts v ∷ []) c.new.ensures c.in_ok-copied.ensures in
    (goals, stands_still w (current [] w) c.in_ok-parts.parts c.requires.fit refl goals (c.in_ok-parts.ensures.1 ∙ c.in_ok-proof.ensures) c.requires.over c.requires.scoped)
