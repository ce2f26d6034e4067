use Rattle.std.proofs.Common.{◌<◌, List, length}
use Rattle.pm_dtext.specs.declared.line.Line.{Line}
use Rattle.pm_write.specs.Writing.{AreRecalled}
use Rattle.pm_write.proofs.recalled.places.Given as goal

abbrev pub invariant-loop : goal.invariant-loop
invariant-loop l = ((lines : List Line) → AreRecalled lines l.out.items) × (0 < length l.out.items)
