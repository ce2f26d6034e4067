use Rattle.std.proofs.Common.{length}
use Rattle.pm_model.specs.Forcing.{bodies}
use Rattle.pm_model.proofs.Values.{forced_subst}
use Rattle.pm_model.proofs.substitution.Goals as goal

pub returns : goal.returns
returns c preds x sigma env n b r = forced_subst (bodies preds.list) (length preds.list) x sigma env n b r
