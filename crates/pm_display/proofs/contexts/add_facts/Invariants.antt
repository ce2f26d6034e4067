use Rattle.std.proofs.Common.{◌≡◌, ◌++◌, take}
use Rattle.pm_display.specs.Goals.{lines_of, fact_line_of}
use Rattle.pm_display.proofs.contexts.add_facts.Given as goal

abbrev pub invariant-loop-i : goal.invariant-loop-i
invariant-loop-i l = l.text ≡ l.fn.text ++ lines_of (fact_line_of l.names) (take l.i l.facts)
