-- What is known of the bytes taken from a source and given to a sink.
use Rattle.std.specs.Prelude.{◌≡◌, ◌≢◌, ℕ, ◌<◌, ◌≤◌, List, [], length, take, Option, None, Some, Result, IfOk, ⊤}
use Rattle.std.specs.Io.KnownBytes.{Appends}

-- all the known bytes were taken, and none is left
abbrev pub TakesAll : Option (List ℕ) → Option (List ℕ) → List ℕ → Type 0
TakesAll None new bytes = ⊤
TakesAll (Some xs) new bytes = (xs ≡ bytes) × (new ≡ Some [])

-- where they are known, there are more than this many
abbrev pub HasMoreThan : Option (List ℕ) → ℕ → Type 0
HasMoreThan None n = ⊤
HasMoreThan (Some xs) n = n < length xs

-- a write took no more than there was, and something where there was anything
abbrev pub TakesSome : {E : Type 0} → Result ℕ E → List ℕ → Type 0
TakesSome r piece = IfOk r (λ n. (n ≤ length piece) × (piece ≢ [] → 1 ≤ n))

-- a front of the piece was appended
pub record AppendsFront (old new : Option (List ℕ)) (piece : List ℕ) : Type 0 where
  pub count : ℕ
  pub within : count ≤ length piece
  pub appended : Appends old new (take count piece)
