use Rattle.std.proofs.Common.{arith, subst}
use Rattle.pm_loeb.specs.Calls.{IsFolded}
use Rattle.pm_loeb.proofs.Calling.{concl_foldable, concl_says, concl_done, concl_missing}
use Rattle.pm_loeb.proofs.unfolding.unfold_concl.Goals as goal

pub folded-requires-clause-few : goal.folded-requires-clause-few
folded-requires-clause-few c = omega (arith, c.requires.handed.few, c.len-vars.ensures)

pub folded-requires-clause-scoped : goal.folded-requires-clause-scoped
folded-requires-clause-scoped c = concl_foldable c.args.preds.now c.args.work.now c.len-vars.result c.len-vars.ensures c.requires.scoped

pub conclude-requires-clause-few : goal.conclude-requires-clause-few
conclude-requires-clause-few c = omega (arith, c.requires.handed.few)

pub conclude-requires-clause-says : goal.conclude-requires-clause-says
conclude-requires-clause-says c =
    concl_says c.args.preds.now c.args.work.now c.len-vars.result c.in-Some.entry c.len-vars.ensures (subst (IsFolded c.args.preds.now c.len-vars.result c.args.work.now.goal.concl) c.in-Some.is c.in_ok-found.ensures)

pub returns-in-Some : goal.returns-in-Some
returns-in-Some c =
    concl_done c.args.preds.now c.args.work.now c.len-vars.result c.in-Some.entry c.conclude.result c.len-vars.ensures (subst (IsFolded c.args.preds.now c.len-vars.result c.args.work.now.goal.concl) c.in-Some.is c.in_ok-found.ensures) c.conclude.ensures

pub returns-in-None : goal.returns-in-None
returns-in-None c =
    concl_missing c.args.preds.now c.args.work.now c.len-vars.result c.refuse_plain.result (subst (IsFolded c.args.preds.now c.len-vars.result c.args.work.now.goal.concl) c.in-None.is c.in_ok-found.ensures) c.refuse_plain.ensures
