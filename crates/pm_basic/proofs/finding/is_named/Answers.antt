use Rattle.std.proofs.Common.{◌∙◌}
use Rattle.pm_basic.proofs.Naming.{named_is}
use Rattle.pm_basic.proofs.finding.is_named.Goals as goal

pub returns : goal.returns
returns c = c.is_some.ensures ∙ named_is c.args.goal.now c.args.name.now c.place_named.result c.requires.apart c.place_named.ensures
