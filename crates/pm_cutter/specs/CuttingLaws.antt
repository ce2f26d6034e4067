-- What holds of the sentences of bytes, however they come.
use Rattle.std.specs.Prelude.{◌≡◌, ◌⊎◌, ℕ, ◌+◌, ◌≤◌, List, [], ◌∷◌, ◌++◌, length, take, drop, None}
use Rattle.pm_cutter.specs.Cutting.{Part, cut, finished, rest_of}

-- the first list is a front of the second
abbrev pub IsFront : List Part → List Part → Type 0
IsFront ps qs = (rest : List Part) × (qs ≡ ps ++ rest)

-- each part stands in the bytes, from an offset on and behind the one before
abbrev pub AreParts : List ℕ → ℕ → List Part → Type 0
AreParts bytes from [] = from ≤ length bytes
AreParts bytes from (p ∷ ps) = (from ≤ p.offset) × (p.text ≡ take (length p.text) (drop p.offset bytes)) × AreParts bytes (p.offset + length p.text) ps

pub record CuttingIsSteady : Type 0 where
  -- what is finished stays, whatever follows
  pub stays : (xs ys : List ℕ) → IsFront (finished xs) (finished (xs ++ ys))
  -- the end finishes one sentence more at most
  pub ends : (xs : List ℕ) → (cut xs ≡ finished xs) ⊎ ((p : Part) × (cut xs ≡ finished xs ++ p ∷ []))
  -- the sentences stand one behind another in the bytes
  pub stand : (xs : List ℕ) → AreParts xs 0 (cut xs)
  -- a sentence that the end finishes leaves nothing
  pub nothing_left : (xs : List ℕ) (p : Part) → cut xs ≡ finished xs ++ p ∷ [] → rest_of xs ≡ None
