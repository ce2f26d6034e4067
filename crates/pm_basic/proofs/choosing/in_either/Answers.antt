use Rattle.std.proofs.Common.{ap}
use Rattle.pm_logic.specs.declared.formula.Formula.TheVariants.{Pure as Assert}
use Rattle.pm_basic.proofs.Choices.{in_either_first, in_either_second}
use Rattle.pm_basic.proofs.choosing.in_either.Goals as goal

pub returns-in_ok-copy_pure : goal.returns-in_ok-copy_pure
returns-in_ok-copy_pure c = in_either_first c.args.vars c.args.p.now c.args.q.now c.args.first (Assert c.in_ok-copy_pure.field-0) c.in_ok-proof.proof c.if-first.true (ap Assert c.in_ok-copy_pure.ensures) c.in_ok-proof.ensures

pub returns-in_ok-copy_pure-2 : goal.returns-in_ok-copy_pure-2
returns-in_ok-copy_pure-2 c = in_either_second c.args.vars c.args.p.now c.args.q.now c.args.first (Assert c.in_ok-copy_pure-2.field-0) c.in_ok-proof-2.proof c.if-first.false (ap Assert c.in_ok-copy_pure-2.ensures) c.in_ok-proof-2.ensures
