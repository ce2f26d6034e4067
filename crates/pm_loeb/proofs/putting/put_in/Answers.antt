use Rattle.std.proofs.Common.{◌<◌, ◌+◌, length, refl, arith}
use Rattle.pm_goal.specs.declared.goal.Hyp.{Hyp}
use Rattle.pm_star.proofs.Pushes.{looked_up}
use Rattle.pm_table.specs.Works as works
use Rattle.pm_action.proofs.Filtered.{hyp_at}
use Rattle.pm_basic.proofs.Building.{built_more}
use Rattle.pm_loeb.proofs.Puttings.{put_one, put_fresh, put_done}
use Rattle.pm_loeb.proofs.putting.put_in.Goals as goal

pub push_hyp-requires : goal.push_hyp-requires
push_hyp-requires c =
    put_fresh c.args.name.now c.args.new.now c.args.hyps.now c.loop-next.next (works.hyp c.in-Some.other.now c.in-Some-formula.formula.now) c.loop-next.out
    (hyp_at c.args.hyps.now c.loop-next.next c.in-Some.other.now c.in-Some-formula.formula.now c.in-Some.ensures c.in-Some-formula.ensures) c.requires c.loop-next.invariant

pub loop-next-preserved-in-Continue-1 : goal.loop-next-preserved-in-Continue-1
loop-next-preserved-in-Continue-1 c =
    built_more (put_one c.args.name.now c.args.new.now) c.args.hyps.now c.loop-next.next (c.loop-next.next + 1) (works.hyp c.in-Some.other.now c.in-Some-formula.formula.now) c.loop-next.out c.push_hyp.new.out refl
    (hyp_at c.args.hyps.now c.loop-next.next c.in-Some.other.now c.in-Some-formula.formula.now c.in-Some.ensures c.in-Some-formula.ensures) c.loop-next.invariant c.in_ok-push_hyp.ensures

pub loop-next-preserved : goal.loop-next-preserved
loop-next-preserved c =
    let within : c.loop-next.next < length c.args.hyps.now = omega (arith, c.loop-next-test.true, c.len-len.ensures) in
    absurd (looked_up (λ (x : Hyp). x.name) c.args.hyps.now c.loop-next.next within c.in_default.ensures)

pub returns : goal.returns
returns c = put_done c.args.name.now c.args.new.now c.args.hyps.now c.loop-next.next c.loop-next.out (omega (arith, c.loop-next-test.false, c.len-len.ensures)) c.loop-next.invariant
