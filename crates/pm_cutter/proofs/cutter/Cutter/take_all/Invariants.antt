use Rattle.std.proofs.Common.{◌≡◌, ◌+◌, length, None}
use Rattle.pm_cutter.specs.Spans.{parts_of}
use Rattle.pm_cutter.specs.Machine.{GoesOn}
use Rattle.pm_cutter.specs.Fed.{kept_of}
use Rattle.pm_cutter.proofs.cutter.Cutter.take_all.Given as goal

abbrev pub invariant-bytes : goal.invariant-bytes
invariant-bytes l = record {
  goes_on : GoesOn (parts_of l.initial.spans) (kept_of l.initial.self) l.piece (parts_of l.spans) (kept_of l.self) l.rest;
  none : l.self.waiting ≡ None;
  failed : l.self.failed ≡ l.initial.self.failed;
  place : l.self.at + length l.rest ≡ l.initial.self.at + length l.piece;
}

abbrev pub decreases-bytes : goal.decreases-bytes
decreases-bytes l = length l.rest
