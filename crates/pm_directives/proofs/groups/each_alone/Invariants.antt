use Rattle.pm_table.specs.Running.{in_place}
use Rattle.pm_sweep.proofs.Swept.{IsSwept}
use Rattle.pm_directives.specs.Groups.{alone_run}
use Rattle.pm_directives.proofs.groups.each_alone.Given as goal

abbrev pub invariant-loop-place : goal.invariant-loop-place
invariant-loop-place l = IsSwept (in_place (alone_run l.alone)) (record { goals = l.place-items; proof = l.initial.proof }) l.place-index l.new l.proof
