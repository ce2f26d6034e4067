use Rattle.std.proofs.Common.{◌≡◌}
use Rattle.pm_print.specs.Lines.{parameters}
use Rattle.pm_print.proofs.lines.parameters.Given as goal

abbrev pub invariant-loop-i : goal.invariant-loop-i
invariant-loop-i l = l.names ≡ parameters l.i
