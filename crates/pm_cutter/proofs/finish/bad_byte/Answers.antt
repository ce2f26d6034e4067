use Rattle.std.proofs.Common.{◌<◌, length, sym, ◌∙◌, ap, arith}
use Rattle.std.proofs.lemmas.Bool.Decides.{nat_tests}
use Rattle.pm_cutter.specs.Cutting.{Move}
use Rattle.pm_cutter.specs.Machine.{mode_of}
use Rattle.pm_cutter.proofs.Ending.{bad_more, bad_stops, bad_none}
use Rattle.pm_cutter.proofs.finish.bad_byte.Goals as goal

pub bytes-preserved : goal.bytes-preserved
bytes-preserved c =
    let some : 0 < length c.bytes.rest.now = grind (arith, nat_tests, sym c.is_empty.ensures ∙ c.bytes-test.true) in
    record {
      same = bad_more (mode_of c.bytes.mode) (mode_of c.mode_behind-mode.result) c.bytes.left c.bytes.at c.in-Some.next c.bytes.rest.now c.split_at.result.1.now _ some c.in-Some.ensures (c.mode_behind-mode.ensures.mode ∙ ap (λ (r : Move). r.0) c.step.ensures.value) c.split_at.ensures.back c.bytes.invariant.same;
      place = omega (arith, c.split_at.ensures.back_len, c.bytes.invariant.place);
      nested = omega (arith, c.mode_behind-mode.ensures.depth, c.step.ensures.depth);
    }

pub returns : goal.returns
returns c = bad_none (mode_of c.bytes.mode) c.bytes.left c.bytes.at c.bytes.rest.now _ (grind (arith, nat_tests, sym c.is_empty.ensures ∙ c.bytes-test.false)) c.bytes.invariant.same

pub returns-in_default : goal.returns-in_default
returns-in_default c =
    let some : 0 < length c.bytes.rest.now = grind (arith, nat_tests, sym c.is_empty.ensures ∙ c.bytes-test.true) in
    bad_stops (mode_of c.bytes.mode) c.bytes.left c.bytes.at c.bytes.rest.now _ some (sym c.in_default.is ∙ c.left_behind.ensures) c.bytes.invariant.same
