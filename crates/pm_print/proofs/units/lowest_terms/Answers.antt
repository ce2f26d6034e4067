use Rattle.std.proofs.Common.{arith}
use Rattle.pm_print.proofs.Divisors.{positive}
use Rattle.pm_print.proofs.units.lowest_terms.Goals as goal

pub nonzero_div-result : goal.nonzero_div-result
nonzero_div-result c = let some = positive c.args.units c.greatest_divisor-divisor.result (omega arith) c.greatest_divisor-divisor.ensures.0 in omega (arith, some)

pub nonzero_div-result-2 : goal.nonzero_div-result-2
nonzero_div-result-2 c = let some = positive c.args.units c.greatest_divisor-divisor.result (omega arith) c.greatest_divisor-divisor.ensures.0 in omega (arith, some)
