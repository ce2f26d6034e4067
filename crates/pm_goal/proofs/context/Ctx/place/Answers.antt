use Rattle.std.proofs.Common.{ℕ, List, ◌∙◌, refl, ap}
use Rattle.std.specs.Prelude.{position}
use Rattle.std.specs.Str.{bytes_eq}
use Rattle.pm_logic.specs.declared.formula.Formula.{Formula}
use Rattle.pm_goal.specs.declared.goal.Hyp.{Hyp}
use Rattle.pm_goal.proofs.Entries.{place_of_entry}
use Rattle.pm_goal.proofs.context.Ctx.place.Goals as goal

pub returns-clause-place : goal.returns-clause-place
returns-clause-place c =
    c.get_index_of.ensures.index
    ∙ place_of_entry c.args.name.now (λ (e : List ℕ × Formula). record { name = e.0; formula = e.1 }) (λ (h : Hyp). h.name) (λ e. refl) c.self.inside.hyps.entries
    ∙ ap (position (λ (h : Hyp). bytes_eq c.args.name.now h.name)) c.self.view_is
