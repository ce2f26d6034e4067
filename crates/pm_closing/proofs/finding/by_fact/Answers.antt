use Rattle.pm_closing.proofs.Found.{said_found, said_nowhere, none_said}
use Rattle.pm_closing.proofs.finding.by_fact.Goals as goal

pub returns-in_default : goal.returns-in_default
returns-in_default c = none_said c.args.goal.now.concl c.args.goal.now.pures c.in_default.not-Pure

pub returns-in-Some : goal.returns-in-Some
returns-in-Some c = said_found c.args.goal.now c.in-Pure.fact c.in-Some.place c.in-Pure.is c.in-Some.ensures

pub returns-in-None : goal.returns-in-None
returns-in-None c = said_nowhere c.args.goal.now c.in-Pure.fact c.in-Pure.is c.in-None.ensures
