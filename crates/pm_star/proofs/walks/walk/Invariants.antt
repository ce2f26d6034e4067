use Rattle.pm_star.specs.Stars.{side_at}
use Rattle.pm_star.specs.Levels.{IsDealt, facing}
use Rattle.pm_star.proofs.walks.walk.Given as goal

abbrev pub invariant-loop-i : goal.invariant-loop-i
invariant-loop-i l = IsDealt l.vars (facing l.crossed (side_at l.shared l.listed)) l.parts l.i l.fn.halves l.made

abbrev pub decreases-loop-i : goal.decreases-loop-i
decreases-loop-i l = l.i
