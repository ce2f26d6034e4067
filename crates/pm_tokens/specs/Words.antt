-- Tables of words.
use Rattle.std.specs.Prelude.{ℕ, if◌then◌else◌, List, [], ◌∷◌, Option, Some, None}
use Rattle.std.specs.Str.{bytes_eq}

-- what stands beside a word, where it stands there first
unfoldable pub lookup : {A : Type 0} → List (List ℕ × A) → List ℕ → Option A
lookup [] word = None
lookup (r ∷ rows) word = if bytes_eq word r.0 then Some r.1 else lookup rows word
