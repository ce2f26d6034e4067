use Rattle.std.proofs.Common.{◌<◌, ◌-◌, length, arith}
use Rattle.pm_star.proofs.UnderBox.{boxed_none, boxed_less, all_boxed, boxed_every, item_shared}
use Rattle.pm_star.proofs.boxing.box_all.Goals as goal

pub loop-i-init : goal.loop-i-init
loop-i-init c = boxed_none c.args.vars c.args.parts.now c.args.inner c.requires.boxed

pub box_more-requires : goal.box_more-requires
box_more-requires c =
    let within : c.loop-i.i - 1 < length c.args.parts.now = omega (arith, c.loop-i-test.true, c.loop-i.invariant.within) in
    record {
      boxed = all_boxed c.args.vars c.args.parts.now c.loop-i.i c.args.inner c.loop-i.made c.loop-i.invariant;
      shared = item_shared c.args.parts.now (c.loop-i.i - 1) c.index-parts-i.result within c.index-parts-i.is c.requires.shared;
    }

pub loop-i-preserved : goal.loop-i-preserved
loop-i-preserved c =
    boxed_less c.args.vars c.args.parts.now c.loop-i.i c.index-parts-i.result c.args.inner c.loop-i.made c.in_ok-made.made (omega (arith, c.loop-i-test.true)) c.index-parts-i.is c.loop-i.invariant c.in_ok-made.ensures

pub returns : goal.returns
returns c = boxed_every c.args.vars c.args.parts.now c.loop-i.i c.args.inner c.loop-i.made (omega (arith, c.loop-i-test.false)) c.loop-i.invariant
