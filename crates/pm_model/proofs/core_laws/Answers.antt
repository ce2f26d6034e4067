use Rattle.pm_model.proofs.Core.{is_core}
use Rattle.pm_model.proofs.core_laws.Goals as goal

pub returns : goal.returns
returns c r = is_core r
