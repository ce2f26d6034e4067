use Rattle.pm_closing.proofs.Exacts.{int_unnamed, int_nowhere, int_other, int_exact}
use Rattle.pm_closing.proofs.naming.exact_int.Goals as goal

pub returns-in_default : goal.returns-in_default
returns-in_default c = int_unnamed c.args.goal.now c.args.name.now c.in_default.ensures.place

pub returns-in_default-formula : goal.returns-in_default-formula
returns-in_default-formula c = int_nowhere c.args.goal.now c.args.name.now c.in-Some.i c.in-Some.ensures.place c.in_default-formula.ensures

pub returns-in-None : goal.returns-in-None
returns-in-None c = int_other c.args.goal.now c.args.name.now c.in-Some.i c.in-Some-formula.formula.now c.in-Some.ensures.place c.in-Some-formula.ensures c.in-None.ensures

pub returns-in-Some-way_of_int : goal.returns-in-Some-way_of_int
returns-in-Some-way_of_int c = int_exact c.args.goal.now c.args.name.now c.in-Some.i c.int_place.result c.in-Some-formula.formula.now c.in-Some-way_of_int.way c.in-Some.ensures.place c.in-Some-formula.ensures c.in-Some-way_of_int.ensures c.int_place.ensures
