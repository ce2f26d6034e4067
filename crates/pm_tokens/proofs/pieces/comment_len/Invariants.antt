use Rattle.std.proofs.Common.{◌≡◌, ◌+◌, ◌≤◌, ◌<◌, length}
use Rattle.pm_tokens.specs.Pieces.{comment_end}
use Rattle.pm_tokens.proofs.pieces.comment_len.Given as goal

abbrev pub invariant-steps : goal.invariant-steps
invariant-steps l = record {
  same : comment_end l.at 0 l.depth l.rest ≡ comment_end 0 2 1 l.bytes;
  place : l.at + length l.rest ≡ length l.bytes;
  few : l.depth + length l.rest ≤ length l.bytes;
  some : 0 < l.at;
}

abbrev pub decreases-steps : goal.decreases-steps
decreases-steps l = length l.rest
