use Rattle.pm_write.proofs.written.earlier_line.Given as goal

abbrev pub invariant-loop-known : goal.invariant-loop-known
invariant-loop-known l = Unit {0}
