use Rattle.pm_basic.proofs.Placed.{index_found, index_missing}
use Rattle.pm_basic.proofs.generalizing.index_of.Goals as goal

pub returns-in-Some : goal.returns-in-Some
returns-in-Some c = index_found c.args.name.now c.args.vars.now c.in-Some.place c.in-Some.ensures.place

pub returns-in-None : goal.returns-in-None
returns-in-None c = index_missing c.args.name.now c.args.vars.now c.in-None.ensures.place
