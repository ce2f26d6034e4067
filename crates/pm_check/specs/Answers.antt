-- What a check answers, and when.
use Rattle.std.specs.Prelude.{◌≡◌, ◌⊎◌, ℕ, ◌<◌, ◌≤◌, ◌^◌, List, [], ◌++◌, length, take, Option, Some, None, Result, Ok, Err, ⊤}
use Rattle.pm_check.specs.declared.checked.Checked.{Checked}
use Rattle.pm_check.specs.declared.fault.CheckFault.{CheckFault}
use Rattle.pm_check.specs.declared.fault.CheckFault.TheVariants.{Long, Read, Memory}
use Rattle.pm_check.specs.Derivation.{IsDerivation}
use Rattle.pm_check.specs.Offence.{FirstOffence}

-- ---- each answer has its cause

-- what is answered is good, or a fault has its cause; want of memory needs none
abbrev pub Gives : {T : Type 0} → (T → Type 0) → (CheckFault → Type 0) → Result T CheckFault → Type 0
Gives good cause (Ok x) = good x
Gives good cause (Err f) = (f ≡ Memory) ⊎ cause f

abbrev pub IsDerived : List ℕ → Checked → Type 0
IsDerived bytes c = IsDerivation bytes c.preds c.statements

-- bytes in memory
abbrev pub Judges : List ℕ → Result Checked CheckFault → Type 0
Judges bytes r = Gives (IsDerived bytes) (FirstOffence bytes) r

-- there are more bytes than 2 ^ 63, and no offence is in the first of them, whatever came next
pub record IsTooLong (bytes : List ℕ) : Type 0 where
  pub many : 2 ^ 63 < length bytes
  pub none : (f : CheckFault) → ¬ ((next : List ℕ) → FirstOffence (take (2 ^ 63) bytes ++ next) f)

-- ---- each cause has its answer

-- the answer is this one, unless memory is wanting
pub record HasItsAnswer (bytes : List ℕ) (r : Result Checked CheckFault) : Type 0 where
  pub derivation : (c : Checked) → IsDerived bytes c → (r ≡ Err Memory) ⊎ (r ≡ Ok c)
  pub offence : (f : CheckFault) → FirstOffence bytes f → (r ≡ Err Memory) ⊎ (r ≡ Err f)

-- the same of a source, unless memory is wanting or a read failed; where there are too many bytes it is `Long`
abbrev pub IsUnlessFailed : Result Checked CheckFault → Result Checked CheckFault → Type 0
IsUnlessFailed answer r = (r ≡ Err Memory) ⊎ (r ≡ Err Read) ⊎ (r ≡ answer)

pub record HasItsAnswerRead (bytes : List ℕ) (r : Result Checked CheckFault) : Type 0 where
  pub derivation : (c : Checked) → IsDerived bytes c → ¬ IsTooLong bytes → IsUnlessFailed (Ok c) r
  pub offence : (f : CheckFault) → FirstOffence bytes f → ¬ IsTooLong bytes → IsUnlessFailed (Err f) r
  pub long : IsTooLong bytes → IsUnlessFailed (Err Long) r

-- ---- where the bytes of the source are told

abbrev pub IfTold : Option (List ℕ) → (List ℕ → Type 0) → Type 0
IfTold None claim = ⊤
IfTold (Some bytes) claim = claim bytes

-- ---- bytes of a source, whose reads may fail

-- what is answered to bytes that the source gave, which are the told ones where it tells
pub record WasJudged (input : Option (List ℕ)) (r : Result Checked CheckFault) : Type 0 where
  pub bytes : List ℕ
  pub told : IfTold input (λ known. known ≡ bytes)
  pub short : length bytes ≤ 2 ^ 63
  pub judges : Judges bytes r

abbrev pub IsChecked : Option (List ℕ) → Result Checked CheckFault → Type 0
IsChecked input (Err Long) = IfTold input IsTooLong
IsChecked input (Err Read) = ⊤
IsChecked input (Err Memory) = ⊤
IsChecked input r = WasJudged input r

-- where the source tells, it is at its end
abbrev pub IsReadToEnd : Option (List ℕ) → Option (List ℕ) → Type 0
IsReadToEnd None new = ⊤
IsReadToEnd (Some bytes) new = new ≡ Some []
