use Rattle.pm_sweep.specs.Acts.{at_place}
use Rattle.pm_sweep.proofs.Swept.{IsSwept}
use Rattle.pm_sweep.proofs.sweeping.sweep.Given as goal

abbrev pub invariant-loop-place : goal.invariant-loop-place
invariant-loop-place l = IsSwept (at_place l.turn l.act) (record { goals = l.place-items; proof = l.initial.proof }) l.place-index l.new l.proof
