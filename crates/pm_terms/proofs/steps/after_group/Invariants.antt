use Rattle.std.proofs.Common.{◌≡◌, zero, ◌≤◌, ◌+◌, length}
use Rattle.pm_tokens.specs.Tokens.{places}
use Rattle.pm_terms.specs.Steps.{after_group}
use Rattle.pm_terms.proofs.steps.after_group.Given as goal

abbrev pub invariant-loop-rest : goal.invariant-loop-rest
invariant-loop-rest l = record {
  same : after_group l.open (places l.rest) ≡ after_group zero (places l.fn.tokens);
  few : l.open + length l.rest ≤ length l.fn.tokens;
}

abbrev pub decreases-loop-rest : goal.decreases-loop-rest
decreases-loop-rest l = length l.rest
