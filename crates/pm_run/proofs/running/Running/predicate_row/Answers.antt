use Rattle.std.proofs.Common.{◌-◌, ◌∙◌, ap}
use Rattle.pm_run.proofs.RowTests.{predicate_row_is}
use Rattle.pm_run.proofs.running.Running.predicate_row.Goals as goal

pub returns : goal.returns
returns c = λ s q name params lists opens uses counts nodes levels.
    predicate_row_is s q name params c.args.self.now.preds.list c.is_open.result c.args.used c.guarded.result c.args.count c.args.all c.args.deepest (c.len-last.result - 1) c.row_if-deep.result c.row_if-large.result c.row_if-wide.result c.row_if-many.result c.row_if-free.result c.row_if.result c.row_if-2.result
    lists (c.is_open.ensures ∙ opens) uses counts nodes levels (ap (λ n. n - 1) c.len-last.ensures) c.guarded.ensures c.row_if-deep.ensures c.row_if-large.ensures c.row_if-wide.ensures c.row_if-many.ensures c.row_if-free.ensures c.row_if.ensures c.row_if-2.ensures
