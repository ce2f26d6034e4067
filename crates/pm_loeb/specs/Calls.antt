-- Tables of predicates in which calls can be unfolded and folded, and the proofs between calls and bodies.
use Rattle.std.specs.Prelude.{◌≡◌, ℕ, [], Option, Some, None}
use Rattle.pm_logic.specs.declared.formula.Formula.{Formula}
use Rattle.pm_logic.specs.declared.formula.Preds.{Preds}
use Rattle.pm_logic.specs.Scope.{Scoped}
use Rattle.pm_goal.specs.declared.work.Work.{Work}
use Rattle.pm_rules.specs.Rules.{HasFitBodies}
use Rattle.pm_proof.specs.Trees.{entail, side_depth}
use Rattle.pm_proof.specs.Known.{Proves, From}
use Rattle.pm_classes.specs.declared.entry.One.{One}
use Rattle.pm_table.specs.Loeb.{body_of_call}
use Rattle.pm_table.specs.Scopes.{IsWorkScoped}

-- the table has each predicate that the work calls, and its bodies are fit
pub record IsUnfoldable (preds : Preds) (w : Work) : Type 0 where
  pub work : IsWorkScoped preds w
  pub bodies : HasFitBodies preds

-- the table has the predicate that is called in k variables, and its bodies are fit
pub record IsFoldable (preds : Preds) (k : ℕ) (call : Formula) : Type 0 where
  pub scoped : Scoped preds k call
  pub bodies : HasFitBodies preds

-- the body of the call, with a proof of it from the call
abbrev pub IsUnfolded : Preds → ℕ → Formula → Option One → Type 0
IsUnfolded preds k f None = body_of_call preds f ≡ None
IsUnfolded preds k f (Some x) = (body_of_call preds f ≡ Some x.formula) × Proves (From preds) (entail k f x.formula) [] 1 (side_depth (entail k f x.formula)) k x.proof

-- the body of the call, with a proof of the call from it
abbrev pub IsFolded : Preds → ℕ → Formula → Option One → Type 0
IsFolded preds k f None = body_of_call preds f ≡ None
IsFolded preds k f (Some x) = (body_of_call preds f ≡ Some x.formula) × Proves (From preds) (entail k x.formula f) [] 1 (side_depth (entail k x.formula f)) k x.proof
