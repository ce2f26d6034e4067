use Rattle.std.proofs.Common.{arith}
use Rattle.pm_logic.proofs.Sizes.{depth_pair}
use Rattle.pm_logic.proofs.size.+depth.Goals as goal

pub returns-in-Sep : goal.returns-in-Sep
returns-in-Sep t c = let e = depth_pair c.args.f.now c.in-Sep.a c.in-Sep.b c.in-Sep.is in grind (arith, e)
