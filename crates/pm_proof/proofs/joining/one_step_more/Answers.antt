use Rattle.pm_proof.proofs.Joins.{leads_more}
use Rattle.pm_proof.proofs.joining.one_step_more.Goals as goal

pub returns : goal.returns
returns c = leads_more
