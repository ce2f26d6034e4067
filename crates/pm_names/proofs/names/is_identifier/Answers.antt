use Rattle.std.proofs.Common.{rules, ◌≡◌, true, false, length, sym, ◌∙◌, ap, tests}
use Rattle.std.specs.Str.{chars}
use Rattle.std.specs.List.{list_all}
use Rattle.std.proofs.lemmas.Iterator.{YieldsList-from_chars}
use Rattle.std.proofs.lemmas.Iterator.Search.{all_from_yields_List}
use Rattle.pm_names.specs.Names.{starts_name, continues_name, is_identifier}
use Rattle.pm_names.proofs.Characters.{chars_first, none_first}
use Rattle.pm_names.proofs.names.is_identifier.Goals as goal

pub returns-then-starts_name : goal.returns-then-starts_name
unfolding is_identifier
returns-then-starts_name c =
    let first = chars_first c.args.text.now c.next.new.self.rest.now c.in-Some.first c.utf8.text (sym c.chars-rest.ensures.rest ∙ c.in-Some.ensures.steps.0) in
    let rest : c.all.result ≡ list_all continues_name (chars c.next.new.self.rest.now) = all_from_yields_List continues_name _ _ c.all.result c.all.ensures.ran (YieldsList-from_chars c.next.new.self.rest.now first.utf8 cc) (λ x b q k. search (rules, tests)) in
    let starts : starts_name c.in-Some.first ≡ true = sym c.starts_name.ensures ∙ c.if-starts_name.true in
    rw (first.all, starts) rest

pub returns-else-starts_name : goal.returns-else-starts_name
unfolding is_identifier
returns-else-starts_name c =
    let first = chars_first c.args.text.now c.next.new.self.rest.now c.in-Some.first c.utf8.text (sym c.chars-rest.ensures.rest ∙ c.in-Some.ensures.steps.0) in
    let starts : starts_name c.in-Some.first ≡ false = sym c.starts_name.ensures ∙ c.if-starts_name.false in
    rw (first.all, starts) c.if-starts_name.false

pub returns-in-None : goal.returns-in-None
returns-in-None c = none_first c.args.text.now (ap length (sym c.chars-rest.ensures.rest) ∙ c.in-None.ensures.steps.0.0)
