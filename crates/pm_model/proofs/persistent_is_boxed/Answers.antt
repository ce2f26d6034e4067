use Rattle.std.proofs.Common.{length}
use Rattle.pm_model.specs.Forcing.{bodies}
use Rattle.pm_model.proofs.Agree.{bodies_monotone}
use Rattle.pm_model.proofs.Persistence.{by_core}
use Rattle.pm_model.proofs.persistent_is_boxed.Goals as goal

pub returns : goal.returns
returns c preds x env n b r p h = by_core (bodies preds.list) (length preds.list) (bodies_monotone preds.list) x env n b r p h
