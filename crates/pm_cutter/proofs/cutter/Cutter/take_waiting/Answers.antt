use Rattle.std.proofs.Common.{Option, ℕ, [], ◌∷◌, ◌++◌, sym, subst}
use Rattle.pm_cutter.specs.Machine.{GoesOn, waiting_bytes}
use Rattle.pm_cutter.specs.Spans.{parts_of}
use Rattle.pm_cutter.specs.Fed.{kept_of}
use Rattle.pm_cutter.proofs.Going.{goes_over_two}
use Rattle.pm_cutter.proofs.cutter.Cutter.take_waiting.Goals as goal

pub returns-clause-goes_on : goal.returns-clause-goes_on
returns-clause-goes_on c = λ bytes.
    subst (λ (o : Option ℕ). GoesOn (parts_of c.args.spans.now) (kept_of c.args.self.now) (waiting_bytes o ++ c.args.next ∷ bytes) (parts_of c.take.new.spans) (kept_of c.take.new.self) (c.args.next ∷ bytes)) (sym c.in-Some.is)
    (goes_over_two (parts_of c.args.spans.now) (kept_of c.args.self.now) c.in-Some.b c.args.next bytes [] (parts_of c.take.new.spans) (kept_of c.take.new.self) c.in_ok-take.ensures.taken)
