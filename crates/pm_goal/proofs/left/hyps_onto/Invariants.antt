use Rattle.pm_goal.specs.Left.{of_kind}
use Rattle.pm_goal.proofs.Stars.{IsStar}
use Rattle.pm_goal.proofs.left.hyps_onto.Given as goal

abbrev pub invariant-loop-i : goal.invariant-loop-i
invariant-loop-i l = IsStar (λ h. of_kind l.fn.kind h.formula) l.list l.i l.fn.end l.left

abbrev pub decreases-loop-i : goal.decreases-loop-i
decreases-loop-i l = l.i
