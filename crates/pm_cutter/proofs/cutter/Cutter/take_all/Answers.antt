use Rattle.std.proofs.Common.{◌<◌, List, ℕ, length, sym, subst, ◌∙◌, arith}
use Rattle.std.proofs.lemmas.Bool.Decides.{nat_tests}
use Rattle.pm_cutter.specs.Machine.{GoesOn}
use Rattle.pm_cutter.specs.Spans.{parts_of}
use Rattle.pm_cutter.specs.Fed.{kept_of}
use Rattle.pm_cutter.proofs.Going.{goes_through, goes_over_first}
use Rattle.pm_cutter.proofs.cutter.Cutter.take_all.Goals as goal

pub bytes-preserved : goal.bytes-preserved
bytes-preserved c =
    let some : 0 < length c.bytes.rest.now = grind (arith, nat_tests, sym c.is_empty.ensures ∙ c.bytes-test.true) in
    let turn = goes_over_first (parts_of c.bytes.spans) (kept_of c.bytes.self) c.bytes.rest.now (parts_of c.take.new.spans) (kept_of c.take.new.self) some (sym c.ends_waiting.ensures ∙ c.if-ends_waiting.false) c.in_ok-take.ensures.taken in
    record {
      goes_on = goes_through (parts_of c.args.spans.now) (kept_of c.args.self.now) c.args.piece.now (parts_of c.bytes.spans) (kept_of c.bytes.self) c.bytes.rest.now (parts_of c.take.new.spans) (kept_of c.take.new.self) c.split_at.result.1.now c.bytes.invariant.goes_on
          (subst (λ (bs : List ℕ). GoesOn (parts_of c.bytes.spans) (kept_of c.bytes.self) c.bytes.rest.now (parts_of c.take.new.spans) (kept_of c.take.new.self) bs) (sym c.split_at.ensures.back) turn);
      none = c.take.ensures.waiting ∙ c.bytes.invariant.none;
      failed = c.take.ensures.failed ∙ c.bytes.invariant.failed;
      place = let at = c.in_ok-take.ensures.taken.at in omega (arith, at, some, c.split_at.ensures.back_len, c.bytes.invariant.place);
    }
