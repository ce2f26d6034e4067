use Rattle.pm_closing.proofs.Found.{int_found, int_rest}
use Rattle.pm_closing.proofs.finding.by_intuitionistic.Goals as goal

pub returns-in-Some : goal.returns-in-Some
returns-in-Some c = int_found c.args.goal.now c.in-Some.place c.in-Some.ensures

pub returns : goal.returns
returns c = int_rest c.args.goal.now c.by_box.result c.in_default.ensures c.by_box.ensures
