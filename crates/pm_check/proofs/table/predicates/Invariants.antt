use Rattle.pm_check.proofs.Tables.{TableProgress}
use Rattle.pm_check.proofs.table.predicates.Given as goal

abbrev pub invariant-loop-arity : goal.invariant-loop-arity
invariant-loop-arity l = TableProgress l.text l.arities l.arity-index l.preds.list l.rest
