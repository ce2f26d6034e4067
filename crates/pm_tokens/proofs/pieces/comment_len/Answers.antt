use Rattle.std.proofs.Common.{◌≡◌, length, sym, ◌∙◌, arith}
use Rattle.std.proofs.lemmas.Bool.Decides.{nat_tests}
use Rattle.pm_tokens.proofs.Comments.{comment_end-left, comment_on, comment_open, comment_closed}
use Rattle.pm_tokens.proofs.pieces.comment_len.Goals as goal

pub steps-init : goal.steps-init
steps-init c = record {
  same = rw c.split_at.ensures.back (sym (comment_end-left 0 2 1 c.args.bytes.now c.requires));
  place = omega (arith, c.split_at.ensures.back_len, c.requires);
  few = omega (arith, c.split_at.ensures.back_len, c.requires);
  some = omega arith;
}

pub returns-then-is_empty-clause-value : goal.returns-then-is_empty-clause-value
returns-then-is_empty-clause-value c =
    let none : length c.steps.rest.now ≡ 0 = grind (arith, nat_tests, sym c.is_empty.ensures ∙ c.if-is_empty.true) in
    sym (comment_open c.steps.at c.steps.depth c.steps.rest.now c.steps-test.true none) ∙ c.steps.invariant.same

pub steps-preserved : goal.steps-preserved
steps-preserved c = record {
  same = rw c.split_at-in-steps.ensures.back (sym (comment_on c.steps.at c.steps.depth c.comment_step-next.result.0 c.comment_step-next.result.1 c.steps.rest.now c.steps-test.true c.comment_step-next.ensures.within.0 c.comment_step-next.ensures.within.1 (sym c.comment_step-next.ensures.value)) ∙ c.steps.invariant.same);
  place = omega (arith, c.split_at-in-steps.ensures.back_len, c.comment_step-next.ensures.within.1, c.steps.invariant.place);
  few = omega (arith, c.split_at-in-steps.ensures.back_len, c.comment_step-next.ensures.within.1, c.comment_step-next.ensures.few, c.steps.invariant.few);
  some = omega (arith, c.steps.invariant.some);
}

pub returns-clause-value : goal.returns-clause-value
returns-clause-value c = sym (comment_closed c.steps.at c.steps.depth c.steps.rest.now c.steps-test.false) ∙ c.steps.invariant.same
