-- The entries of a form: its coefficients and its constant.
use Rattle.std.specs.Prelude.{ℕ, ◌^◌, ℤ, pos, neg_ℤ, ◌*ℤ◌, ◌≤ℤ◌, slice_index_or}
use Rattle.pm_linform.specs.declared.Form.{Form}

-- the coefficient of variable `i`, 0 where the form has no such variable
abbrev pub coefficient : Form → ℕ → ℤ
coefficient f i = slice_index_or f.coefficients i (pos 0)

-- the greatest size of the parts of a sum
unfoldable pub room : ℤ
room = pos (2 ^ 125)

-- x is at most `bound` in size; where the bound is negative, nothing is
pub record IsAtMost (bound x : ℤ) : Type 0 where
  pub low : neg_ℤ bound ≤ℤ x
  pub high : x ≤ℤ bound

-- no entry is larger than `bound` in size
pub record IsWithin (bound : ℤ) (f : Form) : Type 0 where
  pub coefficients : (i : ℕ) → IsAtMost bound (coefficient f i)
  pub constant : IsAtMost bound f.constant

-- no entry times `c` is larger than `bound` in size
pub record IsWithinTimes (bound c : ℤ) (f : Form) : Type 0 where
  pub coefficients : (i : ℕ) → IsAtMost bound (c *ℤ coefficient f i)
  pub constant : IsAtMost bound (c *ℤ f.constant)
