use Rattle.pm_closing.proofs.FalseParts.{false_fact, false_rest}
use Rattle.pm_closing.proofs.falsehoods.by_falsehood.Goals as goal

pub returns-in-Some : goal.returns-in-Some
returns-in-Some c = false_fact c.args.goal.now c.in-Some.place c.in-Some.ensures

pub returns : goal.returns
returns c = false_rest c.args.goal.now c.by_false_hypothesis.result c.in_default.ensures c.by_false_hypothesis.ensures
