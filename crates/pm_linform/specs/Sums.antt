-- What the calls make of a form, entry by entry.
use Rattle.std.specs.Prelude.{◌≡◌, ◌≢◌, ℕ, ℤ, pos, ◌+ℤ◌, ◌*ℤ◌, ◌≤ℤ◌}
use Rattle.pm_linform.specs.declared.Form.{Form}
use Rattle.pm_linform.specs.Entries.{coefficient}

-- all entries are 0
pub record IsZero (f : Form) : Type 0 where
  pub coefficients : (i : ℕ) → coefficient f i ≡ pos 0
  pub constant : f.constant ≡ pos 0

-- `new` is `old` and `c` times variable `i`
pub record AddsVariable (i : ℕ) (c : ℤ) (old new : Form) : Type 0 where
  pub coefficient_is : coefficient new i ≡ coefficient old i +ℤ c
  pub others : (j : ℕ) → j ≢ i → coefficient new j ≡ coefficient old j
  pub constant : new.constant ≡ old.constant

-- `new` is `old` and the constant `c`
pub record AddsConstant (c : ℤ) (old new : Form) : Type 0 where
  pub coefficients : (i : ℕ) → coefficient new i ≡ coefficient old i
  pub constant : new.constant ≡ old.constant +ℤ c

-- `new` is `old` and `c` times `other`
pub record AddsScaled (c : ℤ) (other old new : Form) : Type 0 where
  pub coefficients : (i : ℕ) → coefficient new i ≡ coefficient old i +ℤ c *ℤ coefficient other i
  pub constant : new.constant ≡ old.constant +ℤ c *ℤ other.constant

-- no variable, and a constant of at least 1
pub record IsPositiveConstant (f : Form) : Type 0 where
  pub coefficients : (i : ℕ) → coefficient f i ≡ pos 0
  pub constant : pos 1 ≤ℤ f.constant
