use Rattle.pm_logic.specs.declared.formula.Formula.TheViews as view
use Rattle.pm_frame.proofs.Two.{and_none, and_some}
use Rattle.pm_frame.proofs.sides.in_conjunction.Goals as goal

pub returns-then-neither : goal.returns-then-neither
returns-then-neither c = and_none c.args.vars c.args.r.now c.args.a.now c.args.b.now (view.And c.args.a.now c.args.b.now) c.args.x c.args.y c.neither.result c.neither.ensures c.requires.first c.requires.second c.if-neither.true

pub returns : goal.returns
returns c = and_some c.args.vars c.args.r.now c.args.a.now c.args.b.now (view.And c.args.a.now c.args.b.now) c.args.x c.args.y c.neither.result c.neither.ensures c.requires.first c.requires.second c.in_ok-whole.whole c.if-neither.false c.in_ok-whole.ensures
