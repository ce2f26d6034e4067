use Rattle.pm_closing.proofs.Exacts.{spat_unnamed, spat_nowhere, spat_other, spat_exact}
use Rattle.pm_closing.proofs.naming.exact_spat.Goals as goal

pub returns-in_default : goal.returns-in_default
returns-in_default c = spat_unnamed c.args.goal.now c.args.name.now c.in_default.ensures.place

pub returns-in_default-formula : goal.returns-in_default-formula
returns-in_default-formula c = spat_nowhere c.args.goal.now c.args.name.now c.in-Some.i c.in-Some.ensures.place c.in_default-formula.ensures

pub returns-then-not-same : goal.returns-then-not-same
returns-then-not-same c = spat_other c.args.goal.now c.args.name.now c.in-Some.i c.in-Some-formula.formula.now c.same.result c.in-Some.ensures.place c.in-Some-formula.ensures c.same.ensures c.if-not-same.true

pub returns : goal.returns
returns c = spat_exact c.args.goal.now c.args.name.now c.in-Some.i c.spat_place.result c.in-Some-formula.formula.now c.same.result c.in-Some.ensures.place c.in-Some-formula.ensures c.same.ensures c.if-not-same.false c.spat_place.ensures
