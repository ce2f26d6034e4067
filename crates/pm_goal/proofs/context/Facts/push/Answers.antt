use Rattle.std.proofs.Common.{◌≡◌, ℕ, List, [], ◌∷◌, ◌++◌, map, None, ◌∙◌, refl, ap}
use Rattle.std.specs.Prelude.{position}
use Rattle.std.specs.Str.{bytes_eq}
use Rattle.std.specs.Map.{keys_of}
use Rattle.std.proofs.lemmas.List.{map-append}
use Rattle.indexmap.specs.IndexMap.{insert_entry}
use Rattle.indexmap.proofs.CallerLemmas.{insert_entry-new}
use Rattle.pm_logic.specs.declared.formula.Pure.{Pure}
use Rattle.pm_goal.specs.declared.goal.Fact.{Fact}
use Rattle.pm_goal.proofs.Entries.{place_of_entry, absent_entry}
use Rattle.pm_goal.proofs.context.Facts.push.Goals as goal

pub returns-clause-ok : goal.returns-clause-ok
returns-clause-ok c =
    let item : List ℕ × Pure → Fact = λ e. record { name = e.0; pure = e.1 } in
    let old = c.self.inside.facts.entries in
    let none : position (bytes_eq c.args.fact.name) (keys_of old) ≡ None =
    place_of_entry c.args.fact.name item (λ (f : Fact). f.name) (λ e. refl) old ∙ ap (position (λ (f : Fact). bytes_eq c.args.fact.name f.name)) c.self.view_is ∙ c.requires in
    let parts = ap (λ (p : List ℕ × Pure). insert_entry bytes_eq old p.0 p.1) c.into_parts-name.ensures in
    let added = insert_entry-new bytes_eq c.self.inside.facts c.args.fact.name c.args.fact.pure (absent_entry c.args.fact.name old none) in
    ap {B = List Fact} (map item) (c.in_ok-insert.ensures.entries ∙ (parts ∙ added))
    ∙ map-append item old ((c.args.fact.name, c.args.fact.pure) ∷ [])
    ∙ ap (λ list. list ++ c.args.fact ∷ []) c.self.view_is
