use Rattle.pm_star.proofs.Walking.{IsMade}
use Rattle.pm_star.proofs.walks.star_of.Given as goal

abbrev pub invariant-loop-i : goal.invariant-loop-i
invariant-loop-i l = IsMade l.parts l.i l.made

abbrev pub decreases-loop-i : goal.decreases-loop-i
decreases-loop-i l = l.i
