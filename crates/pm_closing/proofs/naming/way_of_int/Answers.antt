use Rattle.pm_closing.proofs.Exacts.{way_boxed, way_same, way_neither, way_none}
use Rattle.pm_closing.proofs.naming.way_of_int.Goals as goal

pub returns-then-same : goal.returns-then-same
returns-then-same c = way_boxed c.args.concl.now c.args.formula.now c.same.result c.same.ensures c.if-same.true

pub returns-in_default : goal.returns-in_default
returns-in_default c = way_none c.args.concl.now c.args.formula.now c.same.result c.same.ensures c.if-same.false c.in_default.not-Pers

pub returns-then-same-2 : goal.returns-then-same-2
returns-then-same-2 c = way_same c.args.concl.now c.args.formula.now c.get.result.now c.in-Pers.inner c.same.result c.same-2.result c.same.ensures c.if-same.false c.in-Pers.is c.get.ensures c.same-2.ensures c.if-same-2.true

pub returns-else-same-2 : goal.returns-else-same-2
returns-else-same-2 c = way_neither c.args.concl.now c.args.formula.now c.get.result.now c.in-Pers.inner c.same.result c.same-2.result c.same.ensures c.if-same.false c.in-Pers.is c.get.ensures c.same-2.ensures c.if-same-2.false
