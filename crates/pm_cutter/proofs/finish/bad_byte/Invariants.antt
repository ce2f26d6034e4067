use Rattle.std.proofs.Common.{◌≡◌, ◌+◌, ◌≤◌, length}
use Rattle.pm_cutter.specs.Cutting.{gap, bad_byte}
use Rattle.pm_cutter.specs.Machine.{mode_of}
use Rattle.pm_cutter.proofs.finish.bad_byte.Given as goal

abbrev pub invariant-bytes : goal.invariant-bytes
invariant-bytes l = record {
  same : bad_byte (mode_of l.mode) l.left l.at l.rest ≡ bad_byte gap 0 l.start l.bytes;
  place : l.at + length l.rest ≡ l.start + length l.bytes;
  nested : l.mode.depth ≤ l.at;
}

abbrev pub decreases-bytes : goal.decreases-bytes
decreases-bytes l = length l.rest
