use Rattle.pm_directives.proofs.Ended.{AreGoals}
use Rattle.pm_directives.proofs.stepping.goals_of.Given as goal

abbrev pub invariant-loop-place : goal.invariant-loop-place
invariant-loop-place l = AreGoals l.places l.place-index l.out
