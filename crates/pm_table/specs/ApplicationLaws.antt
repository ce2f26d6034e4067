-- How many premises an application makes.
use Rattle.std.specs.Prelude.{◌≡◌, ℕ, zero, suc, ◌<◌, List, length, Option, Some, option_and_then, IfSome, IfNone}
use Rattle.pm_logic.specs.declared.formula.Formula.{Formula}
use Rattle.pm_classes.specs.Classes.{Parts, into_wand}
use Rattle.pm_table.specs.Terms.{premises}

-- what is left of a formula after so many premises
unfoldable pub after_premises : ℕ → Formula → Option Formula
after_premises zero r = Some r
after_premises (suc n) r = option_and_then (λ (parts : Parts). after_premises n parts.second) (into_wand r)

-- after so many premises of r the conclusion c is reached
abbrev pub IsReached : Formula → Formula → ℕ → Type 0
IsReached c r n = after_premises n r ≡ Some c

-- as many premises as are given reach the conclusion, and no fewer do
pub record AreLeast (c r : Formula) (ps : List Formula) : Type 0 where
  pub reached : IsReached c r (length ps)
  pub least : (m : ℕ) → m < length ps → IsReached c r m → ⊥

-- The premises are the fewest by which the conclusion is reached, and where there are none, no number of them reaches it.
pub record ApplyTakesLeast : Type 0 where
  pub some : (c r : Formula) → IfSome (premises c r) (AreLeast c r)
  pub none : (c r : Formula) → IfNone (premises c r) ((n : ℕ) → IsReached c r n → ⊥)
