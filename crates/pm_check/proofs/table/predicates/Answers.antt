use Rattle.std.proofs.Common.{rules, refl}
use Rattle.pm_check.proofs.Tables.{pred_unread, table_grown}
use Rattle.pm_check.proofs.table.predicates.Goals as goal

pub loop-arity-preserved : goal.loop-arity-preserved
loop-arity-preserved c = table_grown c.args.text.now c.args.arities.now _ c.loop-arity.arity-index _ _ c.in-Ok.read.0 _ _ c.preds_are_read.ensures c.loop-arity.invariant c.loop-arity-test.true refl (search rules) c.in_ok-add.ensures

pub returns-in-Err : goal.returns-in-Err
returns-in-Err c = pred_unread c.args.text.now c.args.arities.now c.loop-arity.rest.now c.loop-arity.arity-index _ c.loop-arity.preds.list c.in-Err.fault c.answered.result c.loop-arity.invariant c.loop-arity-test.true refl c.in-Err.ensures c.answered.ensures
