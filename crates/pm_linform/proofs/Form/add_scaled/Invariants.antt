use Rattle.std.proofs.Common.{◌≡◌}
use Rattle.pm_linform.proofs.Entries.{Summed}
use Rattle.pm_linform.proofs.Form.add_scaled.Given as goal

abbrev pub invariant-loop-i : goal.invariant-loop-i
invariant-loop-i l =
    Summed l.i l.c l.initial.self.coefficients l.self.coefficients l.other.coefficients
    × (l.self.constant ≡ l.initial.self.constant)
