use Rattle.pm_rules.proofs.Terms.{seen_times_room}
use Rattle.pm_rules.proofs.forms.sum.Goals as goal

pub add_scaled-requires-clause-scaled : goal.add_scaled-requires-clause-scaled
add_scaled-requires-clause-scaled c = seen_times_room c.args.c c.args.g.now c.ranges.c c.requires.second
