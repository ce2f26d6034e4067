use Rattle.pm_rules.proofs.Computed.{folded, through}
use Rattle.pm_rules.proofs.equations.is_fold.Goals as goal

pub returns-in-Some : goal.returns-in-Some
returns-in-Some c =
    through c.is_subst.ensures (folded c.args.preds.now c.in-Call.pred c.in-Call.args c.in-Some.q.now c.args.body.now c.args.call.now c.in-Call.is c.in-Some.ensures.value)
