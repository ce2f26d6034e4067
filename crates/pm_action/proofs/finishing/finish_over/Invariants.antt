use Rattle.pm_action.proofs.Limiting.{IsWithinBefore}
use Rattle.pm_action.proofs.finishing.finish_over.Given as goal

abbrev pub invariant-loop-place : goal.invariant-loop-place
invariant-loop-place l = IsWithinBefore l.place-items l.place-index
