-- True entailments.
use Rattle.std.specs.Prelude.{◌≡◌, ℕ, List, length, ℤ}
use Rattle.pm_logic.specs.declared.formula.Formula.{Formula}
use Rattle.pm_logic.specs.declared.formula.Preds.{Preds}
use Rattle.pm_model.specs.Resource.{Res}
use Rattle.pm_model.specs.Forcing.{Forces}

-- in every environment of k values, at every step, by every resource: where x is forced with the full bound, so is y
pub record IsTrueEntailment (preds : Preds) (k : ℕ) (x y : Formula) : Type 0 where
  pub holds : (env : List ℤ) → length env ≡ k → (n : ℕ) (r : Res) → Forces preds env n (length preds.list) r x → Forces preds env n (length preds.list) r y
