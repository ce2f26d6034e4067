use Rattle.std.proofs.Common.{subst}
use Rattle.pm_loeb.specs.Calls.{IsFolded}
use Rattle.pm_loeb.specs.Spots.{IsSpot}
use Rattle.pm_loeb.proofs.Calling.{fold_other, fold_done}
use Rattle.pm_loeb.proofs.folding.fold_goal.Goals as goal

pub returns-then-not-same : goal.returns-then-not-same
returns-then-not-same c =
    fold_other c.args.preds.now c.args.work.now c.args.call.now c.args.name.now c.len-vars.result c.in-Some.entry c.len-vars.ensures (subst (IsFolded c.args.preds.now c.len-vars.result c.args.call.now) c.in-Some.is c.in_ok-body.ensures)
    c.in-Some-found.spot (subst (IsSpot c.args.work.now.goal c.args.name.now) c.in-Some-found.is c.in_ok-found.ensures) c.same.result c.same.ensures c.refuse_plain-then-not-same.result c.if-not-same.true c.refuse_plain-then-not-same.ensures

pub returns : goal.returns
returns c =
    fold_done c.args.preds.now c.args.work.now c.args.call.now c.args.name.now c.len-vars.result c.in-Some.entry c.len-vars.ensures (subst (IsFolded c.args.preds.now c.len-vars.result c.args.call.now) c.in-Some.is c.in_ok-body.ensures)
    c.in-Some-found.spot (subst (IsSpot c.args.work.now.goal c.args.name.now) c.in-Some-found.is c.in_ok-found.ensures) c.same.result c.same.ensures c.become_one.result c.if-not-same.false c.become_one.ensures
