use Rattle.std.proofs.Common.{true, sym, ◌∙◌, ap}
use Rattle.std.specs.Str.{chars}
use Rattle.pm_names.specs.Names.{is_identifier}
use Rattle.pm_names.proofs.Characters.{named, no_text}
use Rattle.pm_names.proofs.names.is_name.Goals as goal

pub returns-then-is_identifier : goal.returns-then-is_identifier
returns-then-is_identifier c =
    let same = c.in-Ok.ensures.cases in
    named c.args.text.now true c.is_reserved.result same.1 (sym c.if-is_identifier.true ∙ (c.is_identifier.ensures ∙ ap (λ w. is_identifier (chars w)) same.0)) c.is_reserved.ensures

pub returns-in-Err : goal.returns-in-Err
returns-in-Err c = no_text c.args.text.now c.in-Err.ensures.cases.0
