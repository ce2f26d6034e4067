use Rattle.pm_dtext.specs.Reading.{says_at, literal_of}
use Rattle.pm_dtext.proofs.Items.{ItemsLeft}
use Rattle.pm_dtext.proofs.arguments.factors.Given as goal

abbrev pub invariant-loop-i : goal.invariant-loop-i
invariant-loop-i l = ItemsLeft (says_at literal_of) l.count l.bytes l.factors l._i l.rest
