use Rattle.pm_closing.proofs.Sides.{not_pure, term_found, term_nowhere}
use Rattle.pm_closing.proofs.reflexive.term_of.Goals as goal

pub returns-in_default : goal.returns-in_default
returns-in_default c = not_pure c.args.concl.now c.in_default.not-Pure

pub returns-in-Some : goal.returns-in-Some
returns-in-Some c = term_found c.args.concl.now c.in-Pure.fact c.in-Some.t.now c.in-Pure.is c.in-Some.ensures.0 c.in-Some.ensures.1

pub returns-in-None : goal.returns-in-None
returns-in-None c = term_nowhere c.args.concl.now c.in-Pure.fact c.in-Pure.is c.in-None.ensures
