use Rattle.std.proofs.Common.{arith, ap}
use Rattle.pm_print.proofs.Joined.{five}
use Rattle.std.specs.Prelude.{ℕ}
use Rattle.pm_print.proofs.Divisors.{part_pieces}
use Rattle.pm_print.proofs.units.add_units.Goals as goal

pub returns : goal.returns
returns c = five _ _ _ _ _ _ _ _ _ _ _ _ _ c.in_ok-add_sign.ensures c.in_ok-add_number.ensures c.in_ok-add_sign-2.ensures c.in_ok-add_number-2.ensures c.add_sign-4.ensures
    (part_pieces c.args.units _ _ (omega arith) (ap (λ (x : ℕ × ℕ). x.0) c.lowest_terms-n.ensures) (ap (λ (x : ℕ × ℕ). x.1) c.lowest_terms-n.ensures))
