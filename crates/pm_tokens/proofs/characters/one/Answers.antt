use Rattle.std.proofs.Common.{sym, ◌∙◌, ap, length}
use Rattle.pm_names.proofs.Characters.{chars_first}
use Rattle.pm_tokens.proofs.Runs.{one_none, one_some, one_more}
use Rattle.pm_tokens.proofs.characters.one.Goals as goal

pub returns-in-None : goal.returns-in-None
returns-in-None c = one_none c.args.text.now (ap length (sym c.chars-rest.ensures.rest) ∙ c.in-None.ensures.steps.0.0)

pub returns-in-None-next : goal.returns-in-None-next
returns-in-None-next c =
    let first = chars_first c.args.text.now c.next.new.self.rest.now c.in-Some.first c.utf8.text (sym c.chars-rest.ensures.rest ∙ c.in-Some.ensures.steps.0) in
    one_some c.args.text.now c.next.new.self.rest.now c.in-Some.first first c.in-None-next.ensures.steps.0.0

pub returns-in-Some-next : goal.returns-in-Some-next
returns-in-Some-next c =
    let first = chars_first c.args.text.now c.next.new.self.rest.now c.in-Some.first c.utf8.text (sym c.chars-rest.ensures.rest ∙ c.in-Some.ensures.steps.0) in
    let second = chars_first c.next.new.self.rest.now c.next-in-Some.new.self.rest.now c.in-Some-next.field-0 first.utf8 c.in-Some-next.ensures.steps.0 in
    one_more c.args.text.now c.next.new.self.rest.now c.next-in-Some.new.self.rest.now c.in-Some.first c.in-Some-next.field-0 first second
