use Rattle.pm_basic.proofs.Cleared.{facts_apart, ints_apart, spats_apart}
use Rattle.pm_basic.proofs.clearing.without_named.Goals as goal

pub facts_but-requires : goal.facts_but-requires
facts_but-requires c = facts_apart c.args.goal.now c.requires

pub hyps_but-requires : goal.hyps_but-requires
hyps_but-requires c = ints_apart c.args.goal.now c.requires

pub hyps_but-requires-2 : goal.hyps_but-requires-2
hyps_but-requires-2 c = spats_apart c.args.goal.now c.requires
