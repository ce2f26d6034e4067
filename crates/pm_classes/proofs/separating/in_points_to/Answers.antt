use Rattle.pm_classes.proofs.Calls.{sep_halves, sep_odd}
use Rattle.pm_classes.proofs.separating.in_points_to.Goals as goal

pub returns-then-units-ne0 : goal.returns-then-units-ne0
returns-then-units-ne0 c = sep_odd c.args.vars c.args.loc.now c.args.units c.args.val.now c.if-units-ne0.true

pub returns : goal.returns
returns c = sep_halves c.args.vars c.args.loc.now c.args.units c.args.val.now c.in_ok-entry.entry c.if-units-ne0.false c.in_ok-entry.ensures.first c.in_ok-entry.ensures.second c.in_ok-entry.ensures.proof
