use Rattle.pm_classes.proofs.Calls.{sep_fact, sep_fact_none}
use Rattle.pm_classes.proofs.separating.in_fact.Goals as goal

pub returns-in_ok-entry-in-And : goal.returns-in_ok-entry-in-And
returns-in_ok-entry-in-And c = sep_fact c.args.vars c.args.fact.now c.in-And.p c.in-And.q c.get.result.now c.get-in-And.result.now c.in_ok-entry-in-And.entry c.in-And.is c.get.ensures c.get-in-And.ensures c.in_ok-entry-in-And.ensures.first c.in_ok-entry-in-And.ensures.second c.in_ok-entry-in-And.ensures.proof

pub returns-in_default : goal.returns-in_default
returns-in_default c = sep_fact_none c.args.vars c.args.fact.now c.in_default.not-And
