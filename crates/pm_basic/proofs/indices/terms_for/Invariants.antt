use Rattle.std.proofs.Common.{◌≡◌}
use Rattle.pm_basic.specs.Replacements.{term_for, first_terms}
use Rattle.pm_basic.proofs.indices.terms_for.Given as goal

abbrev pub invariant-loop-j : goal.invariant-loop-j
invariant-loop-j l = l.out ≡ first_terms (term_for l.role l.i) l.j
