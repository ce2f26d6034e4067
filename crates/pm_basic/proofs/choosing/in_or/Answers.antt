use Rattle.pm_basic.proofs.Choices.{in_or_first, in_or_second}
use Rattle.pm_basic.proofs.choosing.in_or.Goals as goal

pub returns-in_ok-formula : goal.returns-in_ok-formula
returns-in_ok-formula c = in_or_first c.args.vars c.args.a.now c.args.b.now c.args.first c.in_ok-formula.formula c.in_ok-proof.proof c.if-first.true c.in_ok-formula.ensures c.in_ok-proof.ensures

pub returns-in_ok-formula-2 : goal.returns-in_ok-formula-2
returns-in_ok-formula-2 c = in_or_second c.args.vars c.args.a.now c.args.b.now c.args.first c.in_ok-formula-2.formula c.in_ok-proof-2.proof c.if-first.false c.in_ok-formula-2.ensures c.in_ok-proof-2.ensures
