use Rattle.pm_model.proofs.Agree.{body_row}
use Rattle.pm_model.proofs.bodies_are_forced.Goals as goal

pub returns : goal.returns
returns c preds n p vals r = body_row preds.list n p vals r
