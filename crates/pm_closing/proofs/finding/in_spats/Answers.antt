use Rattle.pm_closing.proofs.Places.{spat_part}
use Rattle.pm_closing.proofs.finding.in_spats.Goals as goal

pub returns-in-Some : goal.returns-in-Some
returns-in-Some c = (c.in-Some.ensures.0, spat_part c.args.goal.now c.in-Some.i c.spat_place.result c.args.wanted.now c.in-Some.ensures.1 c.spat_place.ensures)
