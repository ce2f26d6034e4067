use Rattle.std.proofs.Common.{◌<◌, ◌+◌, length, refl, ◌∙◌, arith}
use Rattle.pm_goal.specs.declared.goal.Hyp.{Hyp}
use Rattle.pm_star.proofs.Pushes.{looked_up}
use Rattle.pm_table.specs.Works as works
use Rattle.pm_action.proofs.Filtered.{hyp_at}
use Rattle.pm_intro.proofs.Mapped.{mapped_more, mapped_all}
use Rattle.pm_heap.specs.Found.{placed}
use Rattle.pm_heap.proofs.Rewritten.{put_is}
use Rattle.pm_heap.proofs.Written.{placed_not_yet}
use Rattle.pm_heap.proofs.writing.put_in.Goals as goal

pub push-requires : goal.push-requires
push-requires c =
    placed_not_yet c.args.name.now c.args.formula.now c.args.hyps.now c.loop-next.next (works.hyp c.in-Some.own.now c.in-Some-formula.old.now) c.in_ok-put_hyp.field-0 c.loop-next.out
    (hyp_at c.args.hyps.now c.loop-next.next c.in-Some.own.now c.in-Some-formula.old.now c.in-Some.ensures c.in-Some-formula.ensures) c.in_ok-put_hyp.ensures c.requires c.loop-next.invariant

pub loop-next-preserved-in_ok-push : goal.loop-next-preserved-in_ok-push
loop-next-preserved-in_ok-push c =
    mapped_more (placed c.args.name.now c.args.formula.now) c.args.hyps.now c.loop-next.next (c.loop-next.next + 1) (works.hyp c.in-Some.own.now c.in-Some-formula.old.now) c.in_ok-put_hyp.field-0 c.loop-next.out c.push.new.self refl
    (hyp_at c.args.hyps.now c.loop-next.next c.in-Some.own.now c.in-Some-formula.old.now c.in-Some.ensures c.in-Some-formula.ensures) c.in_ok-put_hyp.ensures c.loop-next.invariant c.in_ok-push.ensures.ok

pub loop-next-preserved : goal.loop-next-preserved
loop-next-preserved c =
    let within : c.loop-next.next < length c.args.hyps.now = omega (arith, c.loop-next-test.true, c.len-len.ensures) in
    absurd (looked_up (λ (f : Hyp). f.name) c.args.hyps.now c.loop-next.next within c.in_default.ensures)

pub returns : goal.returns
returns c =
    mapped_all (placed c.args.name.now c.args.formula.now) c.args.hyps.now c.loop-next.next c.loop-next.out (omega (arith, c.loop-next-test.false, c.len-len.ensures)) c.loop-next.invariant
    ∙ put_is c.args.name.now c.args.formula.now c.args.hyps.now
