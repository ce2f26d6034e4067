use Rattle.pm_frame.proofs.Units.{fewer_other, fewer_none, fewer_done}
use Rattle.pm_frame.proofs.leaves.fewer_units.Goals as goal

pub returns-in_default : goal.returns-in_default
returns-in_default c = fewer_other c.args.vars c.args.r.now c.args.loc.now c.args.units c.args.val.now c.in_default.not-Pts

pub returns-then-is_more : goal.returns-then-is_more
returns-then-is_more c = fewer_done c.args.vars c.args.r.now c.in-Pts.other c.in-Pts.fewer c.in-Pts.held c.args.loc.now c.args.units c.args.val.now c.is_more.result c.in_ok-framed.framed c.in-Pts.is c.is_more.ensures c.if-is_more.true c.in_ok-framed.ensures

pub returns : goal.returns
returns c = fewer_none c.args.vars c.args.r.now c.in-Pts.other c.in-Pts.fewer c.in-Pts.held c.args.loc.now c.args.units c.args.val.now c.is_more.result c.in-Pts.is c.is_more.ensures c.if-is_more.false
