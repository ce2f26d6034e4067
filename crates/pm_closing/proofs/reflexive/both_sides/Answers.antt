use Rattle.pm_closing.proofs.Sides.{no_equation, equal_found, equal_other}
use Rattle.pm_closing.proofs.reflexive.both_sides.Goals as goal

pub returns-in_default : goal.returns-in_default
returns-in_default c = no_equation c.args.fact.now c.in_default.not-Eq

pub returns-then-same_term : goal.returns-then-same_term
returns-then-same_term c = equal_found c.args.fact.now c.in-Eq.s c.in-Eq.t c.same_term.result c.in-Eq.is c.same_term.ensures c.if-same_term.true

pub returns-else-same_term : goal.returns-else-same_term
returns-else-same_term c = equal_other c.args.fact.now c.in-Eq.s c.in-Eq.t c.same_term.result c.in-Eq.is c.same_term.ensures c.if-same_term.false
