use Rattle.std.proofs.Common.{◌≡◌, ◌++◌, take}
use Rattle.pm_display.specs.Goals.{lines_of, variable_line}
use Rattle.pm_display.proofs.contexts.add_variables.Given as goal

abbrev pub invariant-loop-name : goal.invariant-loop-name
invariant-loop-name l = l.text ≡ l.fn.text ++ lines_of variable_line (take l.name-index l.vars)
