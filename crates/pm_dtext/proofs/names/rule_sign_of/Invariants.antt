use Rattle.pm_dtext.proofs.Named.{Searched}
use Rattle.pm_dtext.proofs.names.rule_sign_of.Given as goal

abbrev pub invariant-loop-number : goal.invariant-loop-number
invariant-loop-number l = Searched l.word l.number
