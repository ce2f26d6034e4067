-- Proofs that can be written down alone.
use Rattle.std.specs.Prelude.{◌≡◌, ℕ, ◌+◌, ◌≤◌, List, [], ◌∷◌}
use Rattle.pm_logic.specs.declared.formula.Formula.{Formula}
use Rattle.pm_logic.specs.declared.formula.Formula.TheVariants.{Pure as Fact}
use Rattle.pm_logic.specs.declared.formula.Pure.TheVariants.{True}
use Rattle.pm_logic.specs.declared.formula.Preds.{Preds}
use Rattle.pm_logic.specs.Scope.{Scoped}
use Rattle.pm_logic.specs.Size.{depth_of}
use Rattle.pm_rules.specs.declared.rules.Entail.{Entail}
use Rattle.pm_check.specs.declared.checked.Statement.{Statement}
use Rattle.pm_proof.specs.Trees.{Tree, conclusion, empty, side_depth}
use Rattle.pm_proof.specs.Known.{Proves, Every}

-- a proof in no variables, with no holes, and deeper by at most 8 than what it proves
abbrev pub IsWhole : Tree → Type 0
IsWhole t = (n : ℕ) × Proves Every (conclusion t) [] n (side_depth (conclusion t) + 8) 0 t

-- a proof of ⌜True⌝ ⊢ ⌜True⌝ with these holes, and no formula deeper than 4
abbrev pub IsChain : List Entail → Tree → Type 0
IsChain hs t = (n : ℕ) × Proves Every empty hs n 4 0 t

-- a derivation can state it
pub record IsStatable (preds : Preds) (e : Entail) : Type 0 where
  pub vars : e.vars ≡ 0
  pub left : e.left ≡ Fact True
  pub scoped : Scoped preds 0 e.right
  pub deep : depth_of e.right ≤ 900

-- one statement
abbrev pub only : List ℕ → Formula → List Statement
only name f = record { name = name; formula = f } ∷ []
