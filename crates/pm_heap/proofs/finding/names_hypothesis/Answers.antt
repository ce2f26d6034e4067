use Rattle.std.proofs.Common.{◌∙◌, sym, ap, is_some}
use Rattle.pm_basic.proofs.Naming.{hyp_there}
use Rattle.pm_heap.proofs.finding.names_hypothesis.Goals as goal

pub returns : goal.returns
returns c = c.is_some.ensures ∙ (ap is_some c.place.ensures.place ∙ sym (hyp_there c.args.name.now c.args.hyps.now))
