use Rattle.pm_loeb.proofs.Puttings.{ints_apart, spats_apart}
use Rattle.pm_loeb.proofs.putting.put.Goals as goal

pub put_in-requires : goal.put_in-requires
put_in-requires c = ints_apart c.args.goal.now c.requires

pub put_in-requires-2 : goal.put_in-requires-2
put_in-requires-2 c = spats_apart c.args.goal.now c.requires
