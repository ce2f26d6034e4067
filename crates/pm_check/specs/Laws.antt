-- A text has one verdict, and what a derivation states is true in the model.
use Rattle.std.specs.Prelude.{◌≡◌, ◌≢◌, ◌⊎◌, ℕ, ◌<◌, ◌^◌, List, length}
use Rattle.std.specs.List.{AllByRecursion}
use Rattle.pm_logic.specs.declared.formula.Formula.TheVariants.{Pure as Fact}
use Rattle.pm_logic.specs.declared.formula.Pure.TheVariants.{False}
use Rattle.pm_logic.specs.declared.formula.Preds.{Preds}
use Rattle.pm_logic.specs.Trees.{Later}
use Rattle.pm_sound.specs.Truth.{IsTrueEntail}
use Rattle.pm_dtext.specs.declared.line.Line.{Line}
use Rattle.pm_check.specs.declared.checked.Statement.{Statement}
use Rattle.pm_check.specs.declared.fault.CheckFault.{CheckFault}
use Rattle.pm_check.specs.Lines.{steps}
use Rattle.pm_check.specs.Derivation.{Begins, IsDerivation}
use Rattle.pm_check.specs.Offence.{FirstOffence}
use Rattle.pm_check.specs.Truth.{IsTrueStatement}

-- ---- one verdict

-- bytes, as many as there are addresses, determine the table and the statements of a derivation, and the first offence, and never have both
pub record VerdictsAreOne : Type 0 where
  pub derivation : (bytes : List ℕ) (preds preds' : Preds) (statements statements' : List Statement) → length bytes < 2 ^ 64 → IsDerivation bytes preds statements → IsDerivation bytes preds' statements' → (preds ≡ preds') × (statements ≡ statements')
  pub offence : (bytes : List ℕ) (f g : CheckFault) → length bytes < 2 ^ 64 → FirstOffence bytes f → FirstOffence bytes g → f ≡ g
  pub not_both : (bytes : List ℕ) (preds : Preds) (statements : List Statement) (f : CheckFault) → length bytes < 2 ^ 64 → IsDerivation bytes preds statements → ¬ FirstOffence bytes f

-- the bytes are a derivation, or have a first offence
abbrev pub HasVerdict : List ℕ → Type 0
HasVerdict bytes = ((preds : Preds) × (statements : List Statement) × IsDerivation bytes preds statements) ⊎ ((f : CheckFault) × FirstOffence bytes f)

-- no bytes, however many, are without one; it is said with two negations, since definitions alone don't decide conditions
abbrev pub NoneLacksVerdict : Type 0
NoneLacksVerdict = (bytes : List ℕ) → ¬ ¬ HasVerdict bytes

-- ---- truth

-- where bytes begin with a table and lines, each proof line is true in its own number of variables
abbrev pub ProofLinesAreTrue : Type 0
ProofLinesAreTrue = (bytes : List ℕ) (preds : Preds) (ls : List Line) (rest : List ℕ) → Begins bytes preds ls rest → AllByRecursion (IsTrueEntail preds) (steps ls)

-- each statement of a derivation is true
abbrev pub DerivationsAreTrue : Type 0
DerivationsAreTrue = (bytes : List ℕ) (preds : Preds) (statements : List Statement) → IsDerivation bytes preds statements → AllByRecursion (IsTrueStatement preds) statements

-- the statement's formula is neither falsehood nor falsehood one step later
pub record IsNotAbsurd (s : Statement) : Type 0 where
  pub now : s.formula ≢ Fact False
  pub later : s.formula ≢ Later (Fact False)

-- no statement of a derivation is absurd
abbrev pub NothingAbsurd : Type 0
NothingAbsurd = (bytes : List ℕ) (preds : Preds) (statements : List Statement) → IsDerivation bytes preds statements → AllByRecursion IsNotAbsurd statements
