use Rattle.pm_closing.proofs.FalseParts.{false_int, false_spat, false_none}
use Rattle.pm_closing.proofs.falsehoods.by_false_hypothesis.Goals as goal

pub returns-in-Some : goal.returns-in-Some
returns-in-Some c = false_int c.args.goal.now c.in-Some.place c.in-Some.ensures

pub returns-in-Some-in_spats : goal.returns-in-Some-in_spats
returns-in-Some-in_spats c = false_spat c.args.goal.now c.in-Some-in_spats.place c.in_default.ensures c.in-Some-in_spats.ensures

pub returns : goal.returns
returns c = false_none c.args.goal.now c.in_default.ensures c.in-None.ensures
