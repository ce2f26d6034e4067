use Rattle.pm_cutter.proofs.Steady as steady
use Rattle.pm_cutter.proofs.laws.cutting_is_steady.Goals as goal

pub returns : goal.returns
returns c = steady.cutting_is_steady
