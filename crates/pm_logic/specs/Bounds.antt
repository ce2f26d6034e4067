-- How large the indices and depths of what is handed to a call are.
use Rattle.std.specs.Prelude.{ℕ, suc, ◌+◌, ◌≤◌}
use Rattle.pm_logic.specs.declared.formula.Formula.{Formula}
use Rattle.pm_logic.specs.declared.formula.TheConstants.{BOUND}
use Rattle.pm_logic.specs.Scope.{ScopedIn}
use Rattle.pm_logic.specs.Size.{depth_of}

-- the least index that is above the bound
unfoldable pub past_indices : ℕ
past_indices = suc BOUND

-- scoped in some number of variables that is, with the depth, at most the bound
pub record IsBounded (f : Formula) : Type 0 where
  pub vars : ℕ
  pub scoped : ScopedIn vars f
  pub within : vars + depth_of f ≤ BOUND
