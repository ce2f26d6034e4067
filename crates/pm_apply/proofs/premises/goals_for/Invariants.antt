use Rattle.std.proofs.Common.{length}
use Rattle.pm_apply.proofs.PremiseGoals.{AreMade}
use Rattle.pm_apply.proofs.premises.goals_for.Given as goal

abbrev pub invariant-loop-premise : goal.invariant-loop-premise
invariant-loop-premise l = AreMade l.goal l.fn.premises l.left l.places

abbrev pub decreases-loop-premise : goal.decreases-loop-premise
decreases-loop-premise l = length l.left
