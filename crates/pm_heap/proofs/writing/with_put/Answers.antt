use Rattle.pm_hand.proofs.Lookups.{ints_differ, spats_differ}
use Rattle.pm_heap.proofs.writing.with_put.Goals as goal

pub put_in-requires : goal.put_in-requires
put_in-requires c = ints_differ c.args.work.now.goal c.requires

pub put_in-requires-2 : goal.put_in-requires-2
put_in-requires-2 c = spats_differ c.args.work.now.goal c.requires
