-- Terms for the indices of formulas when a goal loses the variable of index i.
use Rattle.std.specs.Prelude.{ℕ, zero, suc, ◌+◌, ◌≤◌, nat_eq, nat_lt, pos, List, [], ◌∷◌, ◌++◌, length, if◌then◌else◌}
use Rattle.pm_logic.specs.declared.formula.Term.{Term}
use Rattle.pm_logic.specs.declared.formula.Term.TheVariants.{Lit, Var}
use Rattle.pm_logic.specs.declared.formula.Formula.{Formula}
use Rattle.pm_logic.specs.declared.formula.TheConstants.{BOUND}
use Rattle.pm_logic.specs.Bounds.{past_indices}
use Rattle.pm_logic.specs.Scope.{TermsScoped, ScopedIn}
use Rattle.pm_logic.specs.Size.{depth_of}
use Rattle.pm_logic.specs.Substitution.{Sub}
use Rattle.pm_table.specs.Occurrences.{without, to_front}
use Rattle.pm_basic.specs.declared.indices.Role.{Role}
use Rattle.pm_basic.specs.declared.indices.Role.TheVariants as role

-- the variables again: each index from i on is one higher
abbrev pub around : ℕ → Sub
around i j = Var (if nat_lt j i then j else suc j)

-- under a binder that binds the variable of index i, which stays among the others
abbrev pub bound : ℕ → Sub
bound i j = Var (if nat_eq i j then 0 else suc j)

abbrev pub zeroed : ℕ → Sub
zeroed i j = if nat_eq i j then Lit (pos 0) else Var j

abbrev pub term_for : Role → ℕ → Sub
term_for role.Losing i = without i
term_for role.Binding i = to_front i
term_for role.Regaining i = around i
term_for role.Rebinding i = bound i
term_for role.Testing i = zeroed i

-- the terms for the first n indices
abbrev pub first_terms : Sub → ℕ → List Term
first_terms f zero = []
first_terms f (suc n) = first_terms f n ++ f n ∷ []

-- the terms can be put in place of the formula's indices
pub record IsFillable (sigma : List Term) (f : Formula) : Type 0 where
  pub scoped : ScopedIn (length sigma) f
  pub size : length sigma + depth_of f ≤ BOUND
  pub terms : TermsScoped past_indices sigma
