use Rattle.pm_heap.proofs.Merged.{formula_handed}
use Rattle.pm_heap.proofs.combining.combine_both.Goals as goal

pub combine-requires-clause-left : goal.combine-requires-clause-left
combine-requires-clause-left c = formula_handed c.args.work.now c.args.a.now c.args.two.now.first.formula c.len-vars.result c.len-vars.ensures c.requires.two.has_first c.requires.handed

pub combine-requires-clause-right : goal.combine-requires-clause-right
combine-requires-clause-right c = formula_handed c.args.work.now c.args.b.now c.args.two.now.second.formula c.len-vars.result c.len-vars.ensures c.requires.two.has_second c.requires.handed
