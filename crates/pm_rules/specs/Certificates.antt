-- What the code makes of facts and factors.
use Rattle.std.specs.Prelude.{◌≡◌, ◌⊎◌, ◌^◌, ◌*◌, ◌+◌, ◌-◌, ℕ, ℤ, pos, ◌+ℤ◌, ◌*ℤ◌, ◌≤ℤ◌, List, [], ◌∷◌, length, map, Option, None, Some}
use Rattle.std.specs.List.{AllByRecursion}
use Rattle.pm_logic.specs.declared.formula.Term.{Term}
use Rattle.pm_logic.specs.declared.formula.Pure.{Pure}
use Rattle.pm_logic.specs.declared.formula.Pure.TheVariants.{True, False, Eq, Le, Lt}
use Rattle.pm_logic.specs.declared.formula.TheConstants.{BOUND}
use Rattle.pm_logic.specs.Trees.{both, either, nope}
use Rattle.pm_linform.specs.declared.Form.{Form}
use Rattle.pm_linform.specs.Entries.{coefficient, IsAtMost, IsWithin}
use Rattle.pm_rules.specs.Equations.{IsFacts}
use Rattle.pm_rules.specs.Linear.{coefficient_of, constant_of, IsAtom, AreSmall, IsEquation, holds, fails, weighted, HaveSigns, IsShown, HasSecond}

-- the factor of a fact
unfoldable pub IsFactor : ℤ → Pure → Type 0
IsFactor c f = IsAtMost (pos (2 ^ 31)) c × (pos 0 ≤ℤ c ⊎ IsEquation f)

-- the factor of the negated conclusion
unfoldable pub IsFirstFactor : ℤ → Type 0
IsFirstFactor c = IsAtMost (pos (2 ^ 31)) c × (pos 0 ≤ℤ c)

-- the facts of a list of conjunctions
unfoldable pub facts_of : Pure → List Pure
facts_of True = []
facts_of False = []
facts_of (Eq s t) = []
facts_of (Le s t) = []
facts_of (Lt s t) = []
facts_of (both a b) = a ∷ facts_of b
facts_of (either a b) = []
facts_of (nope a) = []

-- the factors fit the facts
pub record Fit (cs : List ℤ) (fs : List Pure) : Type 0 where
  pub atoms : AllByRecursion IsAtom fs
  pub small : AllByRecursion AreSmall fs
  pub each : length cs ≡ length fs
  pub sizes : AllByRecursion (IsAtMost (pos (2 ^ 31))) cs
  pub signs : HaveSigns cs fs

-- the sum of the factors times the forms was added
pub record AddsForms (cs : List ℤ) (ts : List Term) (old new : Form) : Type 0 where
  pub coefficients : (i : ℕ) → coefficient new i ≡ coefficient old i +ℤ weighted (λ t. coefficient_of t i) cs ts
  pub constant : new.constant ≡ old.constant +ℤ weighted constant_of cs ts

-- and so it is where the factors fit
unfoldable pub FactsAdded : List ℤ → Pure → Form → Option Form → Type 0
FactsAdded cs p old None = IsFacts p → Fit cs (facts_of p) → ⊥
FactsAdded cs p old (Some new) = IsFacts p × Fit cs (facts_of p) × AddsForms cs (map holds (facts_of p)) old new

-- how large a factor times an entry of an atom's form may be
abbrev pub step : ℕ
step = 2 ^ 31 * (2 ^ 63 + 1)

-- room for the facts of a pure formula of this depth
unfoldable pub HasRoom : Form → ℕ → Type 0
HasRoom f depth = IsWithin (pos ((BOUND - depth) * step)) f

-- c times the term's form
pub record IsTimes (c : ℤ) (t : Term) (f : Form) : Type 0 where
  pub coefficients : (i : ℕ) → coefficient f i ≡ c *ℤ coefficient_of t i
  pub constant : f.constant ≡ c *ℤ constant_of t

-- c times the form of the negated atom
unfoldable pub Starts : ℤ → Pure → Option Form → Type 0
Starts c g None = ¬ (IsAtom g × AreSmall g)
Starts c g (Some f) = (IsAtom g × AreSmall g) × IsTimes c (fails g) f

-- with the facts the sum has no variable and is at least 1
pub record Closes (f : Form) (cs : List ℤ) (p : Pure) : Type 0 where
  pub facts : IsFacts p
  pub fit : Fit cs (facts_of p)
  pub variables : (i : ℕ) → coefficient f i +ℤ weighted (λ t. coefficient_of t i) cs (map holds (facts_of p)) ≡ pos 0
  pub constant : pos 1 ≤ℤ (f.constant +ℤ weighted constant_of cs (map holds (facts_of p)))

unfoldable pub Closing : Option Form → List ℤ → Pure → Type 0
Closing None cs p = ⊥
Closing (Some f) cs p = Closes f cs p

-- the factors show that the facts of the list give g
unfoldable pub Shows : List ℤ → Pure → Pure → Type 0
Shows cs p g = IsFacts p × IsShown cs (facts_of p) g

unfoldable pub StartsWithRoom : Option Form → ℕ → Type 0
StartsWithRoom None depth = Unit {0}
StartsWithRoom (Some f) depth = HasRoom f depth

-- the second list of factors is what g takes
unfoldable pub ShowsSecond : List ℤ → Pure → Pure → Type 0
ShowsSecond ds p g = HasSecond ds (facts_of p) g
