use Rattle.std.proofs.Common.{◌∷◌, [], ◌++◌, false, refl, ◌∙◌, ap₂}
use Rattle.std.specs.Prelude.{replicate}
use Rattle.pm_table.specs.declared.place.Place.TheVariants.{Current as current}
use Rattle.pm_sweep.proofs.Acted.{sound_stays}
use Rattle.pm_sweep.proofs.placing.pass.Goals as goal

pub returns : goal.returns
returns c =
    let w = c.args.work.now in
    sound_stays w (current (replicate c.args.parts false ++ c.args.turns.now) w) c.in_ok-parts.parts c.requires refl (c.in_ok-parts.ensures.0 ∙ ap₂ (λ ts v. current ts v ∷ []) c.in_ok-turns.ensures c.in_ok-copied.ensures) (c.in_ok-parts.ensures.1 ∙ c.in_ok-proof.ensures)
