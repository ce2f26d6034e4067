use Rattle.std.proofs.Common.{◌<◌, ◌-◌, length, arith}
use Rattle.pm_star.specs.Stars.{side_at}
use Rattle.pm_star.specs.Levels.{facing}
use Rattle.pm_star.proofs.Walking.{dealt_none, dealt_less, dealt_halved, dealt_every, both_shared}
use Rattle.pm_star.proofs.walks.walk.Goals as goal

pub loop-i-init : goal.loop-i-init
loop-i-init c = dealt_none c.args.vars (facing c.args.crossed (side_at c.args.shared c.args.listed.now)) c.args.parts.now c.args.halves c.requires.halved

pub level-requires : goal.level-requires
level-requires c =
    let within : c.loop-i.i - 1 < length c.args.parts.now = omega (arith, c.loop-i-test.true, c.loop-i.invariant.within) in
    record {
      halved = dealt_halved c.args.vars (facing c.args.crossed (side_at c.args.shared c.args.listed.now)) c.args.parts.now c.loop-i.i c.args.halves c.loop-i.made c.loop-i.invariant;
      shared = λ both. both_shared c.args.crossed c.args.shared c.args.listed.now c.args.parts.now (c.loop-i.i - 1) c.index-parts-i.result c.side_facing-side.result within c.index-parts-i.is c.requires.shared c.side_facing-side.ensures both;
    }

pub loop-i-preserved : goal.loop-i-preserved
loop-i-preserved c =
    dealt_less c.args.vars (facing c.args.crossed (side_at c.args.shared c.args.listed.now)) c.args.parts.now c.loop-i.i c.index-parts-i.result c.side_facing-side.result c.args.halves c.loop-i.made c.in_ok-made.made (omega (arith, c.loop-i-test.true)) c.index-parts-i.is c.side_facing-side.ensures c.loop-i.invariant c.in_ok-made.ensures

pub returns : goal.returns
returns c = dealt_every c.args.vars (facing c.args.crossed (side_at c.args.shared c.args.listed.now)) c.args.parts.now c.loop-i.i c.args.halves c.loop-i.made (omega (arith, c.loop-i-test.false)) c.loop-i.invariant
