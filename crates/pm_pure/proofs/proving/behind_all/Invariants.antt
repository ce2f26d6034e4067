use Rattle.pm_star.specs.Levels.{IsBehind}
use Rattle.pm_pure.proofs.proving.behind_all.Given as goal

abbrev pub invariant-loop-i : goal.invariant-loop-i
invariant-loop-i l = IsBehind l.vars l.parts l.i l.fn.inner l.made

abbrev pub decreases-loop-i : goal.decreases-loop-i
decreases-loop-i l = l.i
