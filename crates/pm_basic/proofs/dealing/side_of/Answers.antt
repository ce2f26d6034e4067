use Rattle.std.proofs.Common.{◌<◌, ◌+◌, ◌++◌, length, refl, ◌∙◌, ap, arith}
use Rattle.std.specs.Option.{option_copied}
use Rattle.pm_goal.specs.declared.goal.Hyp.{Hyp}
use Rattle.pm_star.proofs.Pushes.{looked_up}
use Rattle.pm_table.specs.Works as works
use Rattle.pm_action.proofs.Filtered.{hyp_at}
use Rattle.pm_basic.specs.Deals.{where_goes}
use Rattle.pm_basic.proofs.Building.{built_more}
use Rattle.pm_basic.proofs.Dealt.{goes_step, side_fresh, side_done}
use Rattle.pm_basic.proofs.dealing.side_of.Goals as goal

pub push_where-requires : goal.push_where-requires
push_where-requires c =
    side_fresh c.args.named (option_copied c.args.names) c.args.hyps.now c.loop-next.next (works.hyp c.in-Some.name.now c.in-Some-formula.formula.now) c.loop-next.out
    (hyp_at c.args.hyps.now c.loop-next.next c.in-Some.name.now c.in-Some-formula.formula.now c.in-Some.ensures c.in-Some-formula.ensures) c.requires c.loop-next.invariant

pub loop-next-preserved-in-Continue-1 : goal.loop-next-preserved-in-Continue-1
loop-next-preserved-in-Continue-1 c =
    built_more (goes_step c.args.named (option_copied c.args.names)) c.args.hyps.now c.loop-next.next (c.loop-next.next + 1) (works.hyp c.in-Some.name.now c.in-Some-formula.formula.now) c.loop-next.out c.push_where.new.out refl
    (hyp_at c.args.hyps.now c.loop-next.next c.in-Some.name.now c.in-Some-formula.formula.now c.in-Some.ensures c.in-Some-formula.ensures) c.loop-next.invariant
    (c.in_ok-push_where.ensures ∙ ap (λ b. c.loop-next.out ++ where_goes b (works.hyp c.in-Some.name.now c.in-Some-formula.formula.now)) c.goes-here.ensures)

pub loop-next-preserved : goal.loop-next-preserved
loop-next-preserved c =
    let within : c.loop-next.next < length c.args.hyps.now = omega (arith, c.loop-next-test.true, c.len-len.ensures) in
    absurd (looked_up (λ (x : Hyp). x.name) c.args.hyps.now c.loop-next.next within c.in_default.ensures)

pub returns : goal.returns
returns c = side_done c.args.named (option_copied c.args.names) c.args.hyps.now c.loop-next.next c.loop-next.out (omega (arith, c.loop-next-test.false, c.len-len.ensures)) c.loop-next.invariant
