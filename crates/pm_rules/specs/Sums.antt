-- What the code makes of terms and atoms: forms, and sums of them.
use Rattle.std.specs.Prelude.{◌≡◌, ◌^◌, ℕ, ℤ, pos, ◌+ℤ◌, ◌*ℤ◌, Option, None, Some}
use Rattle.pm_logic.specs.declared.formula.Term.{Term}
use Rattle.pm_logic.specs.declared.formula.Pure.{Pure}
use Rattle.pm_linform.specs.declared.Form.{Form}
use Rattle.pm_linform.specs.Entries.{coefficient, IsWithin}
use Rattle.pm_rules.specs.Linear.{coefficient_of, constant_of, IsSmall, ◌−◌, one_more, IsAtom, AreSmall, holds, fails}

-- the code's form is the term's
pub record IsFormOf (f : Form) (t : Term) : Type 0 where
  pub coefficients : (i : ℕ) → coefficient f i ≡ coefficient_of t i
  pub constant : f.constant ≡ constant_of t

-- the term's form where the term is small
pub record HasForm (t : Term) (f : Form) : Type 0 where
  pub small : IsSmall t
  pub is : IsFormOf f t

unfoldable pub FormOf : Term → Option Form → Type 0
FormOf t None = ¬ IsSmall t
FormOf t (Some f) = HasForm t f

-- c times the form
pub record IsMultiple (c : ℤ) (f new : Form) : Type 0 where
  pub coefficients : (i : ℕ) → coefficient new i ≡ c *ℤ coefficient f i
  pub constant : new.constant ≡ c *ℤ f.constant

-- the form where its entries are small
unfoldable pub Kept : Form → Option Form → Type 0
Kept f None = ¬ IsWithin (pos (2 ^ 62)) f
Kept f (Some g) = (g ≡ f) × IsWithin (pos (2 ^ 62)) f

-- c times the term's form was added
pub record AddsTerm (c : ℤ) (t : Term) (old new : Form) : Type 0 where
  pub coefficients : (i : ℕ) → coefficient new i ≡ coefficient old i +ℤ (c *ℤ coefficient_of t i)
  pub constant : new.constant ≡ old.constant +ℤ (c *ℤ constant_of t)

-- and so it is where the condition holds
abbrev pub TermAdded : Type 0 → ℤ → Term → Form → Option Form → Type 0
TermAdded ok c t old None = ¬ ok
TermAdded ok c t old (Some new) = ok × AddsTerm c t old new

unfoldable pub DifferenceAdded : ℤ → Term → Term → Form → Option Form → Type 0
DifferenceAdded c s t old r = TermAdded (IsSmall s × IsSmall t) c (s − t) old r

unfoldable pub StrictAdded : ℤ → Term → Term → Form → Option Form → Type 0
StrictAdded c s t old r = TermAdded (IsSmall s × IsSmall t) c (one_more (s − t)) old r

unfoldable pub HoldingAdded : ℤ → Pure → Form → Option Form → Type 0
HoldingAdded c p old r = TermAdded (IsAtom p × AreSmall p) c (holds p) old r

unfoldable pub FailingAdded : ℤ → Pure → Form → Option Form → Type 0
FailingAdded c p old r = TermAdded (IsAtom p × AreSmall p) c (fails p) old r

-- room for one more atom
unfoldable pub IsRoomy : Form → Type 0
IsRoomy f = IsWithin (pos (2 ^ 124)) f
