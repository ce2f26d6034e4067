use Rattle.std.proofs.Common.{ap, arith}
use Rattle.pm_logic.specs.Size.{term_depth}
use Rattle.pm_logic.proofs.Sizes.{terms_depth_more}
use Rattle.pm_logic.proofs.size.terms_depth.Goals as goal

pub loop-t-preserved : goal.loop-t-preserved
loop-t-preserved c =
    let more = terms_depth_more c.args.ts.now c.loop-t.t-index c.t-item.result c.loop-t-test.true in
    let here = ap term_depth c.t-item.is in
    omega (arith, more, here)
