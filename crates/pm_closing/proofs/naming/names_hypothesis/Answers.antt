use Rattle.std.proofs.Common.{◌∙◌}
use Rattle.pm_closing.proofs.Named.{is_hyp}
use Rattle.pm_closing.proofs.naming.names_hypothesis.Goals as goal

pub returns : goal.returns
returns c = c.is_some.ensures ∙ is_hyp c.args.name.now c.args.hyps.now c.place.result c.place.ensures.place
