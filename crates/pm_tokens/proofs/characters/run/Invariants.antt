use Rattle.std.proofs.Common.{◌≡◌, ◌+◌, ◌≤◌, length}
use Rattle.pm_tokens.specs.Characters.{run}
use Rattle.pm_tokens.proofs.characters.run.Given as goal

abbrev pub invariant-loop-c : goal.invariant-loop-c
invariant-loop-c l = record {
  same : l.found + run 0 l.rest ≡ run 0 l.bytes;
  within : l.found + length l.rest ≤ length l.bytes;
}

abbrev pub decreases-loop-c : goal.decreases-loop-c
decreases-loop-c l = length l.rest
