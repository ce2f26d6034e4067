use Rattle.std.proofs.Common.{◌≡◌, zero, ◌≤◌, ◌+◌, length}
use Rattle.pm_tokens.specs.Tokens.{places}
use Rattle.pm_patterns.specs.PatternReading.{another_follows}
use Rattle.pm_patterns.proofs.patterns.another_follows.Given as goal

abbrev pub invariant-loop-rest : goal.invariant-loop-rest
invariant-loop-rest l = record {
  same : another_follows l.open (places l.rest) ≡ another_follows zero (places l.fn.tokens);
  few : l.open + length l.rest ≤ length l.fn.tokens;
}

abbrev pub decreases-loop-rest : goal.decreases-loop-rest
decreases-loop-rest l = length l.rest
