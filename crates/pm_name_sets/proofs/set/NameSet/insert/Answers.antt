use Rattle.std.proofs.Common.{◌∙◌, sym, ap, not}
use Rattle.pm_name_sets.specs.Sets.{has}
use Rattle.pm_name_sets.proofs.Sets.{in_keys, added, names_of}
use Rattle.pm_name_sets.proofs.set.NameSet.insert.Goals as goal

pub returns-clause-new : goal.returns-clause-new
returns-clause-new c =
    c.in_ok-insert.ensures.added
    ∙ ap (λ b. not b) (sym (in_keys c.self.inside.names.keys c.in_ok-key.key.items))
    ∙ ap (λ name. not (has (names_of c.self.inside.names.keys) name)) c.in_ok-key.ensures.items
    ∙ ap (λ set. not (has set c.args.name.now)) c.self.view_is

pub returns-clause-ok : goal.returns-clause-ok
returns-clause-ok c =
    rw (← c.self.view_is)
    (added c.in_ok-insert.field-0 c.self.inside.names.keys c.insert.new.self.keys c.in_ok-key.key c.args.name.now c.in_ok-key.ensures.items
    (c.in_ok-insert.ensures.added
    ∙ ap (λ b. not b) (sym (in_keys c.self.inside.names.keys c.in_ok-key.key.items))
    ∙ ap (λ name. not (has (names_of c.self.inside.names.keys) name)) c.in_ok-key.ensures.items)
    c.in_ok-insert.ensures.keys)
