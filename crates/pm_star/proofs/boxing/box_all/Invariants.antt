use Rattle.pm_star.specs.Chains.{IsBoxedAll}
use Rattle.pm_star.proofs.boxing.box_all.Given as goal

abbrev pub invariant-loop-i : goal.invariant-loop-i
invariant-loop-i l = IsBoxedAll l.vars l.parts l.i l.fn.inner l.made

abbrev pub decreases-loop-i : goal.decreases-loop-i
decreases-loop-i l = l.i
