use Rattle.std.proofs.Common.{◌∙◌}
use Rattle.pm_closing.proofs.Named.{is_fact}
use Rattle.pm_closing.proofs.naming.names_fact.Goals as goal

pub returns : goal.returns
returns c = c.is_some.ensures ∙ is_fact c.args.name.now c.args.facts.now c.place.result c.place.ensures.place
