use Rattle.std.proofs.Common.{◌≡◌, ℕ, List, [], ◌∷◌, ◌++◌, map, None, ◌∙◌, refl, ap}
use Rattle.std.specs.Prelude.{position}
use Rattle.std.specs.Str.{bytes_eq}
use Rattle.std.specs.Map.{keys_of}
use Rattle.std.proofs.lemmas.List.{map-append}
use Rattle.indexmap.specs.IndexMap.{insert_entry}
use Rattle.indexmap.proofs.CallerLemmas.{insert_entry-new}
use Rattle.pm_logic.specs.declared.formula.Formula.{Formula}
use Rattle.pm_goal.specs.declared.goal.Hyp.{Hyp}
use Rattle.pm_goal.proofs.Entries.{place_of_entry, absent_entry}
use Rattle.pm_goal.proofs.context.Ctx.push.Goals as goal

pub returns-clause-ok : goal.returns-clause-ok
returns-clause-ok c =
    let item : List ℕ × Formula → Hyp = λ e. record { name = e.0; formula = e.1 } in
    let old = c.self.inside.hyps.entries in
    let none : position (bytes_eq c.args.hyp.name) (keys_of old) ≡ None =
    place_of_entry c.args.hyp.name item (λ (h : Hyp). h.name) (λ e. refl) old ∙ ap (position (λ (h : Hyp). bytes_eq c.args.hyp.name h.name)) c.self.view_is ∙ c.requires in
    let parts = ap (λ (p : List ℕ × Formula). insert_entry bytes_eq old p.0 p.1) c.into_parts-name.ensures in
    let added = insert_entry-new bytes_eq c.self.inside.hyps c.args.hyp.name c.args.hyp.formula (absent_entry c.args.hyp.name old none) in
    ap {B = List Hyp} (map item) (c.in_ok-insert.ensures.entries ∙ (parts ∙ added))
    ∙ map-append item old ((c.args.hyp.name, c.args.hyp.formula) ∷ [])
    ∙ ap (λ list. list ++ c.args.hyp ∷ []) c.self.view_is
