use Rattle.std.proofs.Common.{refl}
use Rattle.pm_write.proofs.Growing.{keeps_none}
use Rattle.pm_write.proofs.written.Written.new.Goals as goal

pub returns : goal.returns
returns c = keeps_none _ c.new.ensures refl
