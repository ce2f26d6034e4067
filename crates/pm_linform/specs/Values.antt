-- What a form stands for in an environment, whose first entry is the value of variable 0.
use Rattle.std.specs.Prelude.{◌≡◌, ℕ, zero, suc, List, [], ◌∷◌, ℤ, pos, ◌+ℤ◌, ◌*ℤ◌}
use Rattle.pm_linform.specs.declared.Form.{Form}
use Rattle.pm_linform.specs.Entries.{coefficient}
use Rattle.pm_linform.specs.Sums.{IsZero, AddsVariable, AddsConstant, AddsScaled, IsPositiveConstant}

-- the value of a variable, 0 where there is none
abbrev pub entry : List ℤ → ℕ → ℤ
entry [] i = pos 0
entry (z ∷ env) zero = z
entry (z ∷ env) (suc i) = entry env i

-- the sum of coefficients times values
abbrev pub dot : (ℕ → ℤ) → List ℤ → ℤ
dot c [] = pos 0
dot c (z ∷ env) = (c 0 *ℤ z) +ℤ dot (λ i. c (suc i)) env

-- the value of a form
abbrev pub value : List ℤ → Form → ℤ
value env f = dot (coefficient f) env +ℤ f.constant

-- what each call makes of the value
pub record SumsAreExact : Type 0 where
  pub zero_is : (env : List ℤ) (f : Form) → IsZero f → value env f ≡ pos 0
  pub variable_is : (env : List ℤ) (i : ℕ) (c : ℤ) (old new : Form) → AddsVariable i c old new → value env new ≡ value env old +ℤ (c *ℤ entry env i)
  pub constant_is : (env : List ℤ) (c : ℤ) (old new : Form) → AddsConstant c old new → value env new ≡ value env old +ℤ c
  pub scaled_is : (env : List ℤ) (c : ℤ) (other old new : Form) → AddsScaled c other old new → value env new ≡ value env old +ℤ (c *ℤ value env other)
  pub positive_is : (env : List ℤ) (f : Form) → IsPositiveConstant f → value env f ≡ f.constant
