use Rattle.pm_closing.proofs.Exacts.{fact_unnamed, fact_nowhere, fact_other, fact_exact}
use Rattle.pm_closing.proofs.naming.exact_fact.Goals as goal

pub returns-in_default : goal.returns-in_default
returns-in_default c = fact_unnamed c.args.goal.now c.args.name.now c.in_default.ensures.place

pub returns-in_default-pure : goal.returns-in_default-pure
returns-in_default-pure c = fact_nowhere c.args.goal.now c.args.name.now c.in-Some.i c.in-Some.ensures.place c.in_default-pure.ensures

pub returns-then-not-says : goal.returns-then-not-says
returns-then-not-says c = fact_other c.args.goal.now c.args.name.now c.in-Some.i c.in-Some-pure.pure.now c.says.result c.in-Some.ensures.place c.in-Some-pure.ensures c.says.ensures c.if-not-says.true

pub returns : goal.returns
returns c = fact_exact c.args.goal.now c.args.name.now c.in-Some.i c.fact_place.result c.in-Some-pure.pure.now c.says.result c.in-Some.ensures.place c.in-Some-pure.ensures c.says.ensures c.if-not-says.false c.fact_place.ensures
