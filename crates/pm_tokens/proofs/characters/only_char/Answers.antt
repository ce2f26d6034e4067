use Rattle.std.proofs.Common.{◌∙◌, ap}
use Rattle.std.specs.Str.{chars}
use Rattle.pm_tokens.specs.Characters.{one}
use Rattle.pm_tokens.proofs.Runs.{only_text, no_text}
use Rattle.pm_tokens.proofs.characters.only_char.Goals as goal

pub returns-in-Ok : goal.returns-in-Ok
returns-in-Ok c =
    let text = c.in-Ok.ensures.cases in
    only_text c.args.bytes.now _ text.1 (c.one.ensures ∙ ap (λ bs. one (chars bs)) text.0)

pub returns-in-Err : goal.returns-in-Err
returns-in-Err c = no_text c.args.bytes.now c.in-Err.ensures.cases.0
