use Rattle.std.proofs.Common.{◌<◌, ◌+◌, length, refl, arith}
use Rattle.std.specs.Option.{option_copied}
use Rattle.pm_goal.specs.declared.goal.Hyp.{Hyp}
use Rattle.pm_star.proofs.Pushes.{looked_up}
use Rattle.pm_basic.specs.Deals.{goes}
use Rattle.pm_basic.proofs.Dealt.{placed_more, placed_all}
use Rattle.pm_basic.proofs.dealing.places.Goals as goal

pub loop-next-preserved-in-Continue-1 : goal.loop-next-preserved-in-Continue-1
loop-next-preserved-in-Continue-1 c =
    placed_more (goes c.args.named (option_copied c.args.names)) (length c.args.goal.now.pures + length c.args.goal.now.ints) _ c.args.goal.now.spats c.loop-next.next (c.loop-next.next + 1) c.in-Some.name.now c.goes-here.result c.loop-next.out c.push_place.new.out
    refl (omega arith) c.in-Some.ensures c.goes-here.ensures c.loop-next.invariant c.in_ok-push_place.ensures

pub loop-next-preserved : goal.loop-next-preserved
loop-next-preserved c =
    let within : c.loop-next.next < length c.args.goal.now.spats = omega (arith, c.loop-next-test.true, c.len-len.ensures) in
    absurd (looked_up (λ (x : Hyp). x.name) c.args.goal.now.spats c.loop-next.next within c.in_default.ensures)

pub returns : goal.returns
returns c = placed_all (goes c.args.named (option_copied c.args.names)) (length c.args.goal.now.pures + length c.args.goal.now.ints) c.args.goal.now.spats c.loop-next.next c.loop-next.out (omega (arith, c.loop-next-test.false, c.len-len.ensures)) c.loop-next.invariant
