-- Names that the engine makes for a goal.
use Rattle.std.specs.Prelude.{◌≡◌, ℕ, ◌<◌, ◌≤◌, List, ◌++◌, codes, None, is_some, true}
use Rattle.std.specs.Fmt.{decimal}
use Rattle.pm_goal.specs.declared.goal.Goal.{Goal}
use Rattle.pm_goal.specs.Find.{find_of}

-- `_H` and a number
abbrev pub numbered : ℕ → List ℕ
numbered n = codes "_H" ++ decimal n

-- the names of the numbers from 1 to before this one are the goal's
abbrev pub AreNames : Goal → ℕ → Type 0
AreNames goal n = (m : ℕ) → 1 ≤ m → m < n → is_some (find_of goal (numbered m)) ≡ true

-- the name of the least number from 1 that isn't one of the goal's
pub record IsFresh (goal : Goal) (name : List ℕ) : Type 0 where
  pub number : ℕ
  pub some : 1 ≤ number
  pub is : name ≡ numbered number
  pub free : find_of goal name ≡ None
  pub least : AreNames goal number
