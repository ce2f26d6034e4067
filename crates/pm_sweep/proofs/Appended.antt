-- A list added to another, item by item.
use Rattle.std.proofs.Common.{◌≡◌, ℕ, ◌+◌, ◌≤◌, List, ◌++◌, length, take}

pub record IsAppended {A : Type 0} (list : List A) (i : ℕ) (start out : List A) : Type 0 where
  pub within : i ≤ length list
  pub is : out ≡ start ++ take i list
