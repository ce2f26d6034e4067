use Rattle.pm_classes.proofs.Calls.{or_fact, or_fact_none}
use Rattle.pm_classes.proofs.disjoining.in_fact.Goals as goal

pub returns-in_ok-entry-in-Or : goal.returns-in_ok-entry-in-Or
returns-in_ok-entry-in-Or c = or_fact c.args.vars c.args.fact.now c.in-Or.p c.in-Or.q c.get.result.now c.get-in-Or.result.now c.in_ok-entry-in-Or.entry c.in-Or.is c.get.ensures c.get-in-Or.ensures c.in_ok-entry-in-Or.ensures.first c.in_ok-entry-in-Or.ensures.second c.in_ok-entry-in-Or.ensures.proof

pub returns-in_default : goal.returns-in_default
returns-in_default c = or_fact_none c.args.vars c.args.fact.now c.in_default.not-Or
