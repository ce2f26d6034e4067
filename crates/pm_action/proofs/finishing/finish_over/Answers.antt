use Rattle.std.proofs.Common.{◌+◌, refl, subst, Ok, Err}
use Rattle.pm_action.specs.Acting.{EndsOver}
use Rattle.pm_action.proofs.Limiting.{begins, goes_on, refuses_at, ends}
use Rattle.pm_action.proofs.finishing.finish_over.Goals as goal

pub loop-place-init : goal.loop-place-init
loop-place-init c = begins c.as_slice-place-items.result.now

pub returns-in-Some : goal.returns-in-Some
returns-in-Some c = subst (λ ps. EndsOver ps c.args.proof (Err c.refuse_plain.result)) c.as_slice-place-items.ensures (refuses_at c.as_slice-place-items.result.now c.args.proof c.loop-place.place-index c.place-item.result c.in-Some.row c.in_ok-row.field-0 c.refuse_plain.result c.loop-place-test.true c.place-item.is c.in_ok-row.ensures c.in-Some.is c.loop-place.invariant c.refuse_plain.ensures)

pub loop-place-preserved : goal.loop-place-preserved
loop-place-preserved c = goes_on c.as_slice-place-items.result.now c.loop-place.place-index (c.loop-place.place-index + 1) c.place-item.result c.in_ok-row.field-0 refl c.loop-place-test.true c.place-item.is c.in_ok-row.ensures c.in_default.is c.loop-place.invariant

pub returns : goal.returns
returns c = subst (λ ps. EndsOver ps c.args.proof (Ok (record { goals = ps; proof = c.args.proof }))) c.as_slice-place-items.ensures (ends c.as_slice-place-items.result.now c.args.proof c.loop-place.place-index c.loop-place-test.false c.loop-place.invariant)
