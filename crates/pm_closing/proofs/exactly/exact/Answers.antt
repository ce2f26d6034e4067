use Rattle.pm_table.specs.Limits.{work_formulas, all_nodes}
use Rattle.pm_closing.proofs.Answering.{not_there, not_exact, exactly}
use Rattle.pm_closing.proofs.exactly.exact.Goals as goal

pub returns-then-not-is_named : goal.returns-then-not-is_named
returns-then-not-is_named c = not_there (all_nodes (work_formulas c.args.work.now)) c.args.work.now c.args.h.now c.is_named.result c.refuse.result c.requires.nothing c.is_named.ensures c.if-not-is_named.true c.refuse.ensures

pub returns-in-Some : goal.returns-in-Some
returns-in-Some c = exactly (all_nodes (work_formulas c.args.work.now)) c.args.work.now c.args.h.now c.is_named.result c.close_by.result c.requires.nothing c.is_named.ensures c.if-not-is_named.false c.in-Some.ensures.0 c.close_by.ensures

pub returns-in-None : goal.returns-in-None
returns-in-None c = not_exact (all_nodes (work_formulas c.args.work.now)) c.args.work.now c.args.h.now c.is_named.result c.refuse_plain.result c.requires.nothing c.is_named.ensures c.if-not-is_named.false c.in-None.ensures c.refuse_plain.ensures
