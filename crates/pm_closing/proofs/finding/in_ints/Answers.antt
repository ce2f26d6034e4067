use Rattle.pm_closing.proofs.Places.{int_part}
use Rattle.pm_closing.proofs.finding.in_ints.Goals as goal

pub returns-in-Some : goal.returns-in-Some
returns-in-Some c = (c.in-Some.ensures.0, int_part c.args.goal.now c.in-Some.i c.int_place.result c.args.wanted.now c.in-Some.ensures.1 c.int_place.ensures)
