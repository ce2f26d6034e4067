-- Resources: finite maps from integers to units and a value, and how they join.
use Rattle.std.specs.Prelude.{◌≡◌, ℕ, ◌+◌, ◌≤◌, ℤ, nat_abs}
use Rattle.std.proofs.Common.{refl}
use Rattle.pm_logic.specs.declared.formula.TheConstants.{UNIT}

-- what a location holds
pub data Content : Type 0 where
  Empty : Content
  Has : (units : ℕ) (value : ℤ) → Content

-- units are 1 to a whole
abbrev pub IsValid : Content → Type 0
IsValid Empty = Unit {0}
IsValid (Has u v) = (1 ≤ u) × (u ≤ UNIT)

-- a finite map: from some size of location on it holds nothing
pub record Res : Type 0 where
  pub at : ℤ → Content
  pub valid : (l : ℤ) → IsValid (at l)
  pub bound : ℕ
  pub beyond : (l : ℤ) → bound ≤ nat_abs l → at l ≡ Empty

-- where both hold something, the values agree and the units are at most a whole together
abbrev pub Compatible : Content → Content → Type 0
Compatible Empty b = Unit {0}
Compatible (Has u v) Empty = Unit {0}
Compatible (Has u v) (Has w x) = (v ≡ x) × (u + w ≤ UNIT)

-- the units add up
abbrev pub plus : Content → Content → Content
plus Empty b = b
plus (Has u v) Empty = Has u v
plus (Has u v) (Has w x) = Has (u + w) v

-- c is a and b together
pub record Joins (a b c : Res) : Type 0 where
  pub fits : (l : ℤ) → Compatible (a.at l) (b.at l)
  pub sums : (l : ℤ) → c.at l ≡ plus (a.at l) (b.at l)

-- a ≤ c: something joins a to c
pub record Extends (a c : Res) : Type 0 where
  pub rest : Res
  pub joins : Joins a rest c

-- the empty map
unfoldable pub nothing : Res
nothing = record { at = λ l. Empty; valid = λ l. tt; bound = 0; beyond = λ l h. refl }

-- what of a resource may be had any number of times: nothing
unfoldable pub core : Res → Res
core r = nothing
