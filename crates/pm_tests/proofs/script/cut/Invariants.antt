use Rattle.std.proofs.Common.{◌≡◌, ℕ, List, ◌+◌, ◌<◌, length}
use Rattle.pm_cutter.specs.Fed.{IsFed, fed_count}
use Rattle.pm_tests.proofs.script.cut.Given as goal

abbrev pub invariant-pieces : goal.invariant-pieces
invariant-pieces l = record {
  fed : (bytes : List ℕ) × IsFed l.cutter bytes;
  count : fed_count l.cutter + length l.rest ≡ length l.text;
  some : 0 < l.len;
}

abbrev pub decreases-pieces : goal.decreases-pieces
decreases-pieces l = length l.rest
