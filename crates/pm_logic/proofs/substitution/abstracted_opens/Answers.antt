use Rattle.pm_logic.proofs.Abstracts.{opens}
use Rattle.pm_logic.proofs.substitution.abstracted_opens.Goals as goal

pub returns : goal.returns
returns c f s = opens f s
