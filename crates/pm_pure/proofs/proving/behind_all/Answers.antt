use Rattle.std.proofs.Common.{arith}
use Rattle.pm_star.proofs.Walking.{behind_none, behind_less, behind_vars, behind_every}
use Rattle.pm_pure.proofs.proving.behind_all.Goals as goal

pub loop-i-init : goal.loop-i-init
loop-i-init c = behind_none c.args.vars c.args.parts.now c.args.inner c.requires

pub behind_one-requires : goal.behind_one-requires
behind_one-requires c = behind_vars c.args.vars c.args.parts.now c.loop-i.i c.args.inner c.loop-i.made c.loop-i.invariant

pub loop-i-preserved : goal.loop-i-preserved
loop-i-preserved c =
    behind_less c.args.vars c.args.parts.now c.loop-i.i c.index-parts-i.result c.args.inner c.loop-i.made c.in_ok-made.made (omega (arith, c.loop-i-test.true)) c.index-parts-i.is c.loop-i.invariant c.in_ok-made.ensures

pub returns : goal.returns
returns c = behind_every c.args.vars c.args.parts.now c.loop-i.i c.args.inner c.loop-i.made (omega (arith, c.loop-i-test.false)) c.loop-i.invariant
