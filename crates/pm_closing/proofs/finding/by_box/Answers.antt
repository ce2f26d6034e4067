use Rattle.pm_closing.proofs.Found.{boxed_found, boxed_none, no_boxes}
use Rattle.pm_closing.proofs.finding.by_box.Goals as goal

pub returns-in_default : goal.returns-in_default
returns-in_default c = no_boxes c.args.goal.now.concl c.args.goal.now.ints c.in_default.not-Pers

pub returns-in-Some : goal.returns-in-Some
returns-in-Some c = boxed_found c.args.goal.now c.get.result.now c.in-Pers.inner c.in-Some.place c.in-Pers.is c.get.ensures c.in-Some.ensures

pub returns-in-None : goal.returns-in-None
returns-in-None c = boxed_none c.args.goal.now c.get.result.now c.in-Pers.inner c.in-Pers.is c.get.ensures c.in-None.ensures
