use Rattle.std.proofs.Common.{None}
use Rattle.pm_frame.proofs.Parts.{at}
use Rattle.pm_frame.proofs.Two.{no_side}
use Rattle.pm_frame.proofs.sides.side_of.Goals as goal

pub returns-in_ok-proof-in-None : goal.returns-in_ok-proof-in-None
returns-in_ok-proof-in-None c = no_side c.args.vars c.args.r.now c.args.a.now (record { rest = c.in_ok-rest-in-None.rest; proof = c.in_ok-proof-in-None.proof }) (at c.args.vars c.args.r.now c.args.a.now c.args.x None c.in-None.is c.requires) c.in_ok-rest-in-None.ensures c.in_ok-proof-in-None.ensures
