use Rattle.std.proofs.Common.{length}
use Rattle.pm_terms.proofs.scope.+callable_from.Given as goal

abbrev pub decreases-callable_from : goal.decreases-callable_from
decreases-callable_from l = length l.preds.now
