use Rattle.std.proofs.Common.{ap}
use Rattle.pm_logic.specs.declared.formula.Formula.TheVariants.{Pure as Assert}
use Rattle.pm_basic.proofs.Splits.{both_pair}
use Rattle.pm_basic.proofs.splitting.in_both.Goals as goal

pub returns : goal.returns
returns c = both_pair c.args.vars c.args.p.now c.args.q.now (Assert c.in_ok-copy_pure.field-0) (Assert c.in_ok-copy_pure-2.field-0) c.in_ok-proof.proof (ap Assert c.in_ok-copy_pure.ensures) (ap Assert c.in_ok-copy_pure-2.ensures) c.in_ok-proof.ensures
