use Rattle.std.proofs.Common.{drop}
use Rattle.pm_tokens.specs.Tokens.{places}
use Rattle.pm_tokens.specs.declared.symbol.Symbol.TheVariants.{Comma}
use Rattle.pm_terms.specs.Scope.{names_in}
use Rattle.pm_terms.specs.Steps.{sees, with_commas}
use Rattle.pm_terms.specs.TermReading.{sum_in}
use Rattle.pm_terms.proofs.Parts.{PartsLeft}
use Rattle.pm_terms.proofs.terms.sums_in.Given as goal

abbrev pub invariant-loop-i : goal.invariant-loop-i
invariant-loop-i l =
    let part = sum_in l.context.stop (names_in l.bound l.context.vars) l.room in
    PartsLeft (sees Comma) (λ us. part (drop 1 us)) (with_commas part (places l.tokens)) l.count l.terms l._i (places l.rest)
