use Rattle.pm_action.proofs.Filtered.{IsCopied}
use Rattle.pm_intro.proofs.variables.names_with.Given as goal

abbrev pub invariant-loop-x : goal.invariant-loop-x
invariant-loop-x l = IsCopied l.vars l.x-index l.out
