use Rattle.std.proofs.Common.{arith}
use Rattle.pm_star.proofs.Walking.{made_none, made_less, made_all}
use Rattle.pm_star.proofs.walks.star_of.Goals as goal

pub loop-i-init : goal.loop-i-init
loop-i-init c = made_none c.args.parts.now

pub loop-i-preserved : goal.loop-i-preserved
loop-i-preserved c =
    made_less c.args.parts.now c.loop-i.i c.index-parts-i.result c.in_ok-part.part c.loop-i.made c.in_ok-made.made (omega (arith, c.loop-i-test.true)) c.loop-i.invariant c.index-parts-i.is c.in_ok-part.ensures c.in_ok-made.ensures

pub returns : goal.returns
returns c = made_all c.args.parts.now c.loop-i.i c.loop-i.made (omega (arith, c.loop-i-test.false)) c.loop-i.invariant
