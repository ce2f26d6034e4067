use Rattle.std.proofs.Common.{◌∷◌, [], refl, ◌∙◌, ap}
use Rattle.pm_table.specs.Limits.{work_at}
use Rattle.pm_sweep.proofs.Acted.{sound_stays}
use Rattle.pm_sweep.proofs.placing.stay.Goals as goal

pub returns : goal.returns
returns c =
    let place = c.args.place.now in
    sound_stays (work_at place) place c.in_ok-parts.parts c.requires refl (c.in_ok-parts.ensures.0 ∙ ap (λ p. p ∷ []) c.in_ok-copied.ensures) (c.in_ok-parts.ensures.1 ∙ c.in_ok-proof.ensures)
