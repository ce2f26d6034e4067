use Rattle.pm_table.specs.Limits.{work_formulas, all_nodes}
use Rattle.pm_closing.proofs.Answering.{not_assumed, assumed}
use Rattle.pm_closing.proofs.assuming.assumption.Goals as goal

pub returns-in-Some : goal.returns-in-Some
returns-in-Some c = assumed (all_nodes (work_formulas c.args.work.now)) c.args.work.now c.close_by.result c.requires.nothing c.in-Some.ensures.0 c.close_by.ensures

pub returns-in-None : goal.returns-in-None
returns-in-None c = not_assumed (all_nodes (work_formulas c.args.work.now)) c.args.work.now c.refuse_plain.result c.requires.nothing c.in-None.ensures c.refuse_plain.ensures
