use Rattle.std.proofs.Common.{refl}
use Rattle.pm_cutter.proofs.Ending.{fed_none}
use Rattle.pm_cutter.proofs.cutter.Cutter.new.Goals as goal

pub returns-clause-fed : goal.returns-clause-fed
returns-clause-fed c = fed_none _ refl refl (rw (c.between.ensures.mode, c.new.ensures) refl)
