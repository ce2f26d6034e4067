use Rattle.pm_cutter.specs.Spans.{parts_of}
use Rattle.pm_cutter.specs.Fed.{kept_of}
use Rattle.pm_cutter.proofs.Going.{takes_on, takes_last}
use Rattle.pm_cutter.proofs.cutter.Cutter.take.Goals as goal

pub returns-in_ok-hold-in-On-clause-taken : goal.returns-in_ok-hold-in-On-clause-taken
returns-in_ok-hold-in-On-clause-taken c = takes_on (parts_of c.args.spans.now) (kept_of c.args.self.now) c.args.bytes.now c.in-On.mode c.hold.new.held c.in-On.ensures.value c.in_ok-hold-in-On.ensures

pub returns-in_ok-hand_out-in-Finished-clause-taken : goal.returns-in_ok-hand_out-in-Finished-clause-taken
returns-in_ok-hand_out-in-Finished-clause-taken c =
    takes_last (parts_of c.args.spans.now) (kept_of c.args.self.now) c.args.bytes.now _ c.hand_out.new.held (parts_of c.hand_out.new.spans) c.in-Finished.start c.in-Finished.end c.in-Finished.ensures.value c.between-self.ensures.mode c.in_ok-hand_out-in-Finished.ensures.held c.in_ok-hand_out-in-Finished.ensures.spans
