use Rattle.std.proofs.Common.{◌∙◌}
use Rattle.pm_run.proofs.RowTests.{lemma_row_is, lemmas_counted}
use Rattle.pm_run.proofs.running.Running.lemma_row.Goals as goal

pub returns : goal.returns
returns c = λ s name statement nodes levels opens uses counts.
    lemma_row_is s name statement c.is_open.result c.args.used c.len.result c.args.all c.args.deepest c.size_row-large.result c.row_if-many.result c.row_if.result c.row_if-2.result
    nodes levels (c.is_open.ensures ∙ opens) uses (lemmas_counted s c.args.self.now.lemmas c.len.result c.len.ensures counts) c.size_row-large.ensures c.row_if-many.ensures c.row_if.ensures c.row_if-2.ensures
