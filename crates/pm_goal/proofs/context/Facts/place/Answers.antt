use Rattle.std.proofs.Common.{ℕ, List, ◌∙◌, refl, ap}
use Rattle.std.specs.Prelude.{position}
use Rattle.std.specs.Str.{bytes_eq}
use Rattle.pm_logic.specs.declared.formula.Pure.{Pure}
use Rattle.pm_goal.specs.declared.goal.Fact.{Fact}
use Rattle.pm_goal.proofs.Entries.{place_of_entry}
use Rattle.pm_goal.proofs.context.Facts.place.Goals as goal

pub returns-clause-place : goal.returns-clause-place
returns-clause-place c =
    c.get_index_of.ensures.index
    ∙ place_of_entry c.args.name.now (λ (e : List ℕ × Pure). record { name = e.0; pure = e.1 }) (λ (f : Fact). f.name) (λ e. refl) c.self.inside.facts.entries
    ∙ ap (position (λ (f : Fact). bytes_eq c.args.name.now f.name)) c.self.view_is
