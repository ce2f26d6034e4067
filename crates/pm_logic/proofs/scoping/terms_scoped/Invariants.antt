use Rattle.std.proofs.Common.{take}
use Rattle.pm_logic.specs.Scope.{TermsScoped}
use Rattle.pm_logic.proofs.scoping.terms_scoped.Given as goal

abbrev pub invariant-loop-t : goal.invariant-loop-t
invariant-loop-t l = TermsScoped l.k (take l.t-index l.ts)
