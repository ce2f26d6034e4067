use Rattle.pm_dtext.specs.Reading.{term_at}
use Rattle.pm_dtext.proofs.Items.{ItemsLeft}
use Rattle.pm_dtext.proofs.terms.terms.Given as goal

abbrev pub invariant-loop-i : goal.invariant-loop-i
invariant-loop-i l = ItemsLeft (term_at l.levels l.vars) l.count l.bytes l.terms l._i l.rest
