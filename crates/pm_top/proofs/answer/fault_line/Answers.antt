use Rattle.pm_top.proofs.Offences.{names_is}
use Rattle.pm_top.proofs.answer.fault_line.Goals as goal

pub refused-requires : goal.refused-requires
refused-requires c = names_is _ _ _ c.in-Refused.is c.requires
