use Rattle.pm_logic.specs.declared.formula.Formula.TheVariants.{Pure as Assert}
use Rattle.pm_goal.proofs.Stars.{IsStar}
use Rattle.pm_goal.proofs.left.facts_onto.Given as goal

abbrev pub invariant-loop-i : goal.invariant-loop-i
invariant-loop-i l = IsStar (λ h. Assert h.pure) l.list l.i l.fn.end l.left

abbrev pub decreases-loop-i : goal.decreases-loop-i
decreases-loop-i l = l.i
