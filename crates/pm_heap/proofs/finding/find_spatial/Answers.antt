use Rattle.std.proofs.Common.{sym}
use Rattle.pm_basic.proofs.Naming.{hyp_missing}
use Rattle.pm_heap.proofs.finding.find_spatial.Goals as goal

pub returns-in-None : goal.returns-in-None
returns-in-None c = hyp_missing c.args.name.now c.args.goal.now.spats (sym c.in-None.ensures.place)
