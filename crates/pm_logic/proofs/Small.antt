-- Terms within the bound, for callers.
use Rattle.std.proofs.Common.{ℕ, ◌≤◌, [], ◌∷◌, arith}
use Rattle.pm_logic.specs.declared.formula.Term.{Term}
use Rattle.pm_logic.specs.declared.formula.Term.TheVariants.{Var}
use Rattle.pm_logic.specs.declared.formula.TheConstants.{BOUND}
use Rattle.pm_logic.specs.Bounds.{past_indices}
use Rattle.pm_logic.specs.Scope.{TermScoped, TermsScoped}
use Rattle.pm_logic.proofs.Grows.{term_grows}
use Rattle.pm_logic.proofs.Scopes.{add_scoped}

pub term_within : (k : ℕ) (t : Term) → k ≤ BOUND → TermScoped k t → TermScoped past_indices t
unfolding past_indices
term_within k t le h = term_grows k 1000000001 t (omega arith) h

pub two_terms : (i j : ℕ) → i ≤ BOUND → j ≤ BOUND → TermsScoped past_indices (Var i ∷ Var j ∷ [])
unfolding TermsScoped TermScoped past_indices
two_terms i j le less = (omega arith, (omega arith, tt))

pub small_var : (i : ℕ) → i ≤ BOUND → TermScoped past_indices (Var i)
unfolding TermScoped past_indices
small_var i le = omega arith

pub ruleset small_terms = (add_scoped, small_var)
