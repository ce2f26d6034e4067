use Rattle.std.proofs.Common.{◌<◌, ◌+◌, length, refl, arith}
use Rattle.pm_goal.specs.declared.goal.Hyp.{Hyp}
use Rattle.pm_star.proofs.Pushes.{looked_up}
use Rattle.pm_table.specs.Works as works
use Rattle.pm_action.proofs.Filtered.{hyp_at}
use Rattle.pm_basic.specs.Replacements.{IsFillable}
use Rattle.pm_basic.proofs.Changed.{at_item, hyp_fresh, hyp_more, hyps_done}
use Rattle.pm_basic.proofs.changing.each_hyp.Goals as goal

pub hyp_of-requires : goal.hyp_of-requires
hyp_of-requires c =
    at_item (λ (f : Hyp). IsFillable c.args.sigma.now f.formula) c.args.hyps.now c.loop-next.next (works.hyp c.in-Some.name.now c.in-Some-formula.formula.now) c.requires.fillable
    (hyp_at c.args.hyps.now c.loop-next.next c.in-Some.name.now c.in-Some-formula.formula.now c.in-Some.ensures c.in-Some-formula.ensures)

pub push-requires : goal.push-requires
push-requires c =
    hyp_fresh c.args.sigma.now c.args.hyps.now c.loop-next.next (works.hyp c.in-Some.name.now c.in-Some-formula.formula.now) c.in_ok-hyp_of.field-0 c.loop-next.out
    (hyp_at c.args.hyps.now c.loop-next.next c.in-Some.name.now c.in-Some-formula.formula.now c.in-Some.ensures c.in-Some-formula.ensures) c.in_ok-hyp_of.ensures c.requires.apart c.loop-next.invariant

pub loop-next-preserved-in_ok-push : goal.loop-next-preserved-in_ok-push
loop-next-preserved-in_ok-push c =
    hyp_more c.args.sigma.now c.args.hyps.now c.loop-next.next (c.loop-next.next + 1) (works.hyp c.in-Some.name.now c.in-Some-formula.formula.now) c.in_ok-hyp_of.field-0 c.loop-next.out c.push.new.self refl
    (hyp_at c.args.hyps.now c.loop-next.next c.in-Some.name.now c.in-Some-formula.formula.now c.in-Some.ensures c.in-Some-formula.ensures) c.in_ok-hyp_of.ensures c.loop-next.invariant c.in_ok-push.ensures.ok

pub loop-next-preserved : goal.loop-next-preserved
loop-next-preserved c =
    let within : c.loop-next.next < length c.args.hyps.now = omega (arith, c.loop-next-test.true, c.len-len.ensures) in
    absurd (looked_up (λ (f : Hyp). f.name) c.args.hyps.now c.loop-next.next within c.in_default.ensures)

pub returns : goal.returns
returns c = hyps_done c.args.sigma.now c.args.hyps.now c.loop-next.next c.loop-next.out (omega (arith, c.loop-next-test.false, c.len-len.ensures)) c.loop-next.invariant
