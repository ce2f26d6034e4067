use Rattle.pm_intro.proofs.Mapped.{IsMapped, raised_held}
use Rattle.pm_intro.proofs.variables.each_held.Given as goal

abbrev pub invariant-loop-h : goal.invariant-loop-h
invariant-loop-h l = IsMapped raised_held l.held l.h-index l.out
