use Rattle.std.proofs.Common.{◌<◌, ◌+◌, length, refl, arith}
use Rattle.pm_goal.specs.declared.goal.Hyp.{Hyp}
use Rattle.pm_star.proofs.Pushes.{looked_up}
use Rattle.pm_table.specs.Works as works
use Rattle.pm_action.proofs.Filtered.{filtered_more, not_before, hyp_at}
use Rattle.pm_action.proofs.contexts.hyps_but.Goals as goal

pub keep_hyp-requires : goal.keep_hyp-requires
keep_hyp-requires c =
    not_before (λ (h : Hyp). h.name) c.args.name.now c.args.hyps.now c.loop-next.next (works.hyp c.in-Some.other.now c.in-Some-formula.formula.now) c.loop-next.out
    (hyp_at c.args.hyps.now c.loop-next.next c.in-Some.other.now c.in-Some-formula.formula.now c.in-Some.ensures c.in-Some-formula.ensures) c.requires c.loop-next.invariant

pub loop-next-preserved-in-Continue-1 : goal.loop-next-preserved-in-Continue-1
loop-next-preserved-in-Continue-1 c =
    filtered_more (λ (h : Hyp). h.name) c.args.name.now c.args.hyps.now c.loop-next.next (c.loop-next.next + 1) (works.hyp c.in-Some.other.now c.in-Some-formula.formula.now) c.loop-next.out c.keep_hyp.new.out refl
    (hyp_at c.args.hyps.now c.loop-next.next c.in-Some.other.now c.in-Some-formula.formula.now c.in-Some.ensures c.in-Some-formula.ensures) c.loop-next.invariant c.in_ok-keep_hyp.ensures

pub loop-next-preserved : goal.loop-next-preserved
loop-next-preserved c =
    let within : c.loop-next.next < length c.args.hyps.now = omega (arith, c.loop-next-test.true, c.len-len.ensures) in
    absurd (looked_up (λ (h : Hyp). h.name) c.args.hyps.now c.loop-next.next within c.in_default.ensures)
