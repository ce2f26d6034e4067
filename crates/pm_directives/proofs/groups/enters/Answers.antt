use Rattle.pm_directives.proofs.Fronts.{enters_either, enters_imp}
use Rattle.pm_directives.proofs.groups.enters.Goals as goal

pub returns-in-Imp : goal.returns-in-Imp
returns-in-Imp c = enters_imp c.args.none c.args.f.now c.in-Imp.a c.in-Imp.field-1 c.get.result.now c.may_enter.result c.in-Imp.is c.get.ensures c.may_enter.ensures

pub returns-in-All : goal.returns-in-All
returns-in-All c = enters_either c.args.none c.args.f.now c.in-All.is

pub returns-in-All-2 : goal.returns-in-All-2
returns-in-All-2 c = enters_either c.args.none c.args.f.now c.in-All.is
