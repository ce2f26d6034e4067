-- What the walks over trees do, by the terms that are handed to them.
use Rattle.std.specs.Prelude.{◌≡◌, ◌⊎◌, ℕ, ◌+◌, ◌<◌, ◌≤◌, List, [], ◌∷◌}
use Rattle.pm_logic.specs.declared.formula.Term.{Term}
use Rattle.pm_logic.specs.declared.formula.Term.TheVariants.{Var}
use Rattle.pm_logic.specs.declared.formula.Pure.{Pure}
use Rattle.pm_logic.specs.declared.formula.Formula.{Formula}
use Rattle.pm_logic.specs.declared.formula.TheConstants.{BOUND}
use Rattle.pm_logic.specs.declared.filling.Fill.{Fill}
use Rattle.pm_logic.specs.declared.filling.Fill.TheVariants.{Itself, Entries, First, OneUp}
use Rattle.pm_logic.specs.declared.change.Change.{Change}
use Rattle.pm_logic.specs.declared.change.Change.TheVariants.{Replace, Abstract}
use Rattle.pm_logic.specs.Scope.{TermScoped, TermsScoped, PureScoped}
use Rattle.pm_logic.specs.Size.{depth_of}
use Rattle.pm_logic.specs.Bounds.{IsBounded}
use Rattle.pm_logic.specs.Substitution.{Sub, in_term, entries, first, one_up, under_by, raised_by}
use Rattle.pm_logic.specs.Abstraction.{abstracted}

-- the first of the terms for index 0, and each other index one lower; no terms leave every index
unfoldable pub first_of : List Term → Sub
first_of [] = Var
first_of (t ∷ ts) = first t

-- what stands for the free indices
unfoldable pub filled : Fill → List Term → Sub
filled Itself ts = Var
filled Entries ts = entries ts
filled First ts = first_of ts
filled OneUp ts = one_up

-- the term under d binders with the others in place of its free indices
unfoldable pub replaced : Sub → ℕ → Term → Term
replaced f d t = in_term (under_by d f) t

-- what becomes of a term under d binders
unfoldable pub change_of : Change → List Term → ℕ → Term → Term
change_of (Replace fill) ts d t = replaced (filled fill ts) d t
change_of Abstract [] d t = replaced Var d t
change_of Abstract (s ∷ ts) d t = abstracted d (raised_by d s) t

-- raising an index stays within its type
unfoldable pub IndexFits : Fill → ℕ → ℕ → Type 0
IndexFits fill d i = (fill ≡ Itself) ⊎ ((d ≤ BOUND) × (i < BOUND))

unfoldable pub TermFits : Change → ℕ → Term → Type 0
TermFits change d t = (change ≡ Replace Itself) ⊎ ((d ≤ BOUND) × TermScoped BOUND t)

unfoldable pub TermsFit : Change → ℕ → List Term → Type 0
TermsFit change d ts = (change ≡ Replace Itself) ⊎ ((d ≤ BOUND) × TermsScoped BOUND ts)

unfoldable pub PureFits : Change → ℕ → Pure → Type 0
PureFits change d p = (change ≡ Replace Itself) ⊎ ((d ≤ BOUND) × PureScoped BOUND p)

unfoldable pub FormulaFits : Change → ℕ → Formula → Type 0
FormulaFits change d f = (change ≡ Replace Itself) ⊎ ((d + depth_of f ≤ BOUND) × IsBounded f)
