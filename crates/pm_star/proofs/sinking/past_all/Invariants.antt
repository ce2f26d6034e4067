use Rattle.pm_star.specs.Chains.{IsPastAll}
use Rattle.pm_star.proofs.sinking.past_all.Given as goal

abbrev pub invariant-loop-i : goal.invariant-loop-i
invariant-loop-i l = IsPastAll l.vars l.a l.parts l.i l.fn.inner l.made

abbrev pub decreases-loop-i : goal.decreases-loop-i
decreases-loop-i l = l.i
