-- A proof kept as the list of its steps, and the proof that they make together.
use Rattle.std.specs.Prelude.{◌≡◌, ℕ, suc, ◌≤◌, List, [], ◌∷◌, ◌++◌, take, drop}
use Rattle.std.specs.List.{AllByRecursion, flat_map, sum_by}
use Rattle.pm_logic.specs.declared.formula.Preds.{Preds}
use Rattle.pm_rules.specs.declared.rules.Entail.{Entail}
use Rattle.pm_proof.specs.Trees.{Tree, conclusion, holes_of, hole_count, rules, depth, variables, filled}
use Rattle.pm_proof.specs.Valid.{Valid, IsScoped}
use Rattle.pm_proof.specs.declared.joining.Step.{Step}

-- the goals that the step leaves, and the lemmas that it uses
abbrev pub goals_of : Step → List Entail
goals_of s = take s.goals (holes_of s.proof)

abbrev pub lemmas_of : Step → List Entail
lemmas_of s = drop s.goals (holes_of s.proof)

-- the steps lead from goals to goals: each proves the first one, whose place the goals that it leaves take
abbrev pub Leads : List Entail → List Step → List Entail → Type 0
Leads gs [] left = gs ≡ left
Leads [] (s ∷ ss) left = ⊥
Leads (g ∷ gs) (s ∷ ss) left = (conclusion s.proof ≡ g) × (s.goals ≤ hole_count s.proof) × Leads (goals_of s ++ gs) ss left

-- they prove one goal, and leave none
abbrev pub IsComplete : List Step → Type 0
IsComplete ss = (g : Entail) × Leads (g ∷ []) ss []

-- the tree with these trees at hole i and the next ones
abbrev pub filled_from : Tree → ℕ → List Tree → Tree
filled_from t i [] = t
filled_from t i (x ∷ xs) = filled (filled_from t (suc i) xs) i x

-- the proofs of the goals that the steps prove: the first step's has those of the goals that it leaves at their holes
abbrev pub joined : List Step → List Tree
joined [] = []
joined (s ∷ ss) = filled_from s.proof 0 (take s.goals (joined ss)) ∷ drop s.goals (joined ss)

-- the lemmas that each of them uses: those of the goals that the first step leaves, then its own
abbrev pub used : List Step → List (List Entail)
used [] = []
used (s ∷ ss) = (flat_map (λ es. es) (take s.goals (used ss)) ++ lemmas_of s) ∷ drop s.goals (used ss)

-- what is known of the proof that the steps make: it proves the goal that they began with, its holes are the lemmas that they
-- use, it is valid and scoped where each step is, it has as many rules as they together, and is no deeper and no wider than
-- each of them may be
pub record Joins (ss : List Step) (t : Tree) : Type 0 where
  pub concludes : (g : Entail) → Leads (g ∷ []) ss [] → conclusion t ≡ g
  pub holes : used ss ≡ holes_of t ∷ []
  pub valid : (preds : Preds) → AllByRecursion (λ s. Valid preds s.proof) ss → Valid preds t
  pub scoped : (preds : Preds) → AllByRecursion (λ s. IsScoped preds s.proof) ss → IsScoped preds t
  pub size : rules t ≡ sum_by (λ s. rules s.proof) ss
  pub shallow : (d : ℕ) → AllByRecursion (λ s. depth s.proof ≤ d) ss → depth t ≤ d
  pub narrow : (k : ℕ) → AllByRecursion (λ s. variables s.proof ≤ k) ss → variables t ≤ k
