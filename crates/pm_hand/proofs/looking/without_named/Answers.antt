use Rattle.pm_hand.proofs.Lookups.{pures_differ, ints_differ, spats_differ}
use Rattle.pm_hand.proofs.looking.without_named.Goals as goal

pub facts_but-requires : goal.facts_but-requires
facts_but-requires c = pures_differ c.args.goal.now c.requires

pub hyps_but-requires : goal.hyps_but-requires
hyps_but-requires c = ints_differ c.args.goal.now c.requires

pub hyps_but-requires-2 : goal.hyps_but-requires-2
hyps_but-requires-2 c = spats_differ c.args.goal.now c.requires
