use Rattle.std.proofs.Common.{take}
use Rattle.pm_write.proofs.Stating.{SoFar}
use Rattle.pm_write.proofs.written.Written.prove_all.Given as goal

abbrev pub invariant-loop-named : goal.invariant-loop-named
invariant-loop-named l = SoFar l.fn.self l.self l.proofs (take l.named-index l.proofs) l.earlier.items
