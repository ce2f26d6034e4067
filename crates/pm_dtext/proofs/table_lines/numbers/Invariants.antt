use Rattle.pm_dtext.proofs.Lists.{NumbersLeft}
use Rattle.pm_dtext.proofs.table_lines.numbers.Given as goal

abbrev pub invariant-loop-i : goal.invariant-loop-i
invariant-loop-i l = NumbersLeft l.most l.bytes l.numbers l._i l.rest
