use Rattle.std.proofs.Common.{◌≡◌, ◌++◌}
use Rattle.pm_print.specs.Printing.{text_of}
use Rattle.pm_print.specs.Lines.{parameters, names_pieces}
use Rattle.pm_print.proofs.lines.add_parameters.Given as goal

abbrev pub invariant-loop-i : goal.invariant-loop-i
invariant-loop-i l = l.text ≡ l.fn.text ++ text_of (names_pieces (parameters l.i))
