use Rattle.std.proofs.Common.{arith}
use Rattle.pm_star.proofs.Sunk.{past_none, past_less, past_sunk, past_every}
use Rattle.pm_star.proofs.sinking.past_all.Goals as goal

pub loop-i-init : goal.loop-i-init
loop-i-init c = past_none c.args.vars c.args.a.now c.args.parts.now c.args.inner c.requires

pub past_one-requires : goal.past_one-requires
past_one-requires c = past_sunk c.args.vars c.args.a.now c.args.parts.now c.loop-i.i c.args.inner c.loop-i.made c.loop-i.invariant

pub loop-i-preserved : goal.loop-i-preserved
loop-i-preserved c =
    past_less c.args.vars c.args.a.now c.args.parts.now c.loop-i.i c.index-parts-i.result c.args.inner c.loop-i.made c.in_ok-made.made (omega (arith, c.loop-i-test.true)) c.index-parts-i.is c.loop-i.invariant c.in_ok-made.ensures

pub returns : goal.returns
returns c = past_every c.args.vars c.args.a.now c.args.parts.now c.loop-i.i c.args.inner c.loop-i.made (omega (arith, c.loop-i-test.false)) c.loop-i.invariant
