use Rattle.pm_table.specs.Limits.{work_formulas, all_nodes}
use Rattle.pm_basic.proofs.generalizing.end.Goals as goal

pub returns : goal.returns
returns c = c.finish_one.ensures (all_nodes (work_formulas c.args.work.now)) c.args.work.now c.in_ok-proof.ensures
