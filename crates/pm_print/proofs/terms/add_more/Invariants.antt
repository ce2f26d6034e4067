use Rattle.std.proofs.Common.{◌≡◌, ◌++◌, take}
use Rattle.pm_print.specs.Printing.{text_of}
use Rattle.pm_print.specs.Parts.{bound_by, more_terms}
use Rattle.pm_print.proofs.terms.add_more.Given as goal

abbrev pub invariant-loop-t : goal.invariant-loop-t
invariant-loop-t l = l.text ≡ l.fn.text ++ text_of (more_terms (bound_by l.binders l.vars) (take l.t-index l.ts))
