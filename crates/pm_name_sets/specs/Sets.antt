-- Sets of names, as lists in which the order says nothing.
use Rattle.std.specs.Prelude.{◌≡◌, ℕ, ◌||◌, Bool, List}
use Rattle.std.specs.List.{list_any}
use Rattle.std.specs.Str.{bytes_eq}

-- whether the name is in the set
abbrev pub has : List (List ℕ) → List ℕ → Bool
has set name = list_any (bytes_eq name) set

-- one name more
pub record Adds (old new : List (List ℕ)) (name : List ℕ) : Type 0 where
  pub has : (other : List ℕ) → has new other ≡ (has old other || bytes_eq other name)
