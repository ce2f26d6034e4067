use Rattle.std.proofs.Common.{take}
use Rattle.pm_logic.specs.Integers.{TermsAreI64}
use Rattle.pm_logic.proofs.integers.terms_are_i64.Given as goal

abbrev pub invariant-loop-t : goal.invariant-loop-t
invariant-loop-t l = TermsAreI64 (take l.t-index l.ts)
