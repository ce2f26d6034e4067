-- A text has one verdict.
use Rattle.pm_dtext.proofs.Stated.{headers, arities, preds, lines}
use Rattle.pm_check.specs.Laws.{VerdictsAreOne}
use Rattle.pm_check.proofs.OneVerdict.{one_verdict}

pub verdicts_are_one : VerdictsAreOne
verdicts_are_one = one_verdict headers arities preds lines
