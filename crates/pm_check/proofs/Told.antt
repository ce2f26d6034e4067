-- What is answered to the bytes of a source.
use Rattle.std.proofs.Common.{◌≡◌, ℕ, ◌≤◌, ◌^◌, List, length, refl, sym, ◌∙◌, subst, arith, Option, Some, None, Result, Ok, Err, inl, inr}
use Rattle.std.specs.List.{AllByRecursion}
use Rattle.std.specs.Prelude.{IfOk}
use Rattle.pm_io.specs.Taken.{TakesAll}
use Rattle.pm_dtext.specs.declared.fault.Fault.{Fault}
use Rattle.pm_dtext.specs.declared.fault.Fault.TheVariants as reading
use Rattle.pm_check.specs.declared.checked.Checked.{Checked}
use Rattle.pm_check.specs.declared.fault.CheckFault.{CheckFault}
use Rattle.pm_check.specs.declared.fault.CheckFault.TheVariants as fault
use Rattle.pm_check.specs.Offence.{placed, FirstOffence, header, arities, predicate, unguarded, line, step, qed}
use Rattle.pm_check.specs.Answers.{Judges, HasItsAnswer, HasItsAnswerRead, IfTold, WasJudged, IsChecked, IsReadToEnd}
use Rattle.pm_check.specs.Truth.{IsTrueStatement}
use Rattle.pm_check.proofs.Truth.{statements_true}

abbrev Answer : Type 0
Answer = Result Checked CheckFault

-- ---- no offence is a failed read or a long text

placed_read : (bytes : List ℕ) (n : ℕ) (f : Fault) → placed bytes n f ≡ fault.Read → ⊥
placed_read bytes n (reading.Syntax left) e = cc
placed_read bytes n (reading.NoLine cited) e = cc
placed_read bytes n (reading.Deep left) e = cc

placed_long : (bytes : List ℕ) (n : ℕ) (f : Fault) → placed bytes n f ≡ fault.Long → ⊥
placed_long bytes n (reading.Syntax left) e = cc
placed_long bytes n (reading.NoLine cited) e = cc
placed_long bytes n (reading.Deep left) e = cc

offence_read : (bytes : List ℕ) (f : CheckFault) → FirstOffence bytes f → f ≡ fault.Read → ⊥
offence_read bytes _ (header f e) is = placed_read bytes 0 f is
offence_read bytes _ (arities rest f t e) is = placed_read bytes 0 f is
offence_read bytes _ (predicate table preds arity rest f t b h e) is = placed_read bytes 0 f is
offence_read bytes _ (unguarded table preds q rest t b p n) is = cc
offence_read bytes _ (line preds ls rest f b s e) is = placed_read bytes _ f is
offence_read bytes _ (step preds ls rule first second e rest unmet b fits bad) is = cc
offence_read bytes _ (qed preds ls name cited rest condition b fits bad) is = cc

offence_long : (bytes : List ℕ) (f : CheckFault) → FirstOffence bytes f → f ≡ fault.Long → ⊥
offence_long bytes _ (header f e) is = placed_long bytes 0 f is
offence_long bytes _ (arities rest f t e) is = placed_long bytes 0 f is
offence_long bytes _ (predicate table preds arity rest f t b h e) is = placed_long bytes 0 f is
offence_long bytes _ (unguarded table preds q rest t b p n) is = cc
offence_long bytes _ (line preds ls rest f b s e) is = placed_long bytes _ f is
offence_long bytes _ (step preds ls rule first second e rest unmet b fits bad) is = cc
offence_long bytes _ (qed preds ls name cited rest condition b fits bad) is = cc

-- ---- each answer has its cause

told : (left new : Option (List ℕ)) (bytes : List ℕ) → TakesAll left new bytes → IfTold left (λ known. known ≡ bytes)
told None new bytes t = tt
told (Some xs) new bytes t = t.0

was_judged : (left new : Option (List ℕ)) (bytes : List ℕ) (r : Answer) → TakesAll left new bytes → length bytes ≤ 2 ^ 63 → Judges bytes r → WasJudged left r
was_judged left new bytes r t short j = record { bytes = bytes; told = told left new bytes t; short = short; judges = j }

never_long : (bytes : List ℕ) → Judges bytes (Err fault.Long) → ⊥
never_long bytes j = elim j [ inl memory ↦ wanting memory | inr first ↦ offence_long bytes fault.Long first refl ]
  where
    wanting : (let f : CheckFault = fault.Long in f) ≡ fault.Memory → ⊥
    wanting e = cc

pub checked : (left new : Option (List ℕ)) (bytes : List ℕ) (r : Answer) → TakesAll left new bytes → length bytes ≤ 2 ^ 63 → Judges bytes r → IsChecked left r
checked left new bytes (Ok c) t short j = was_judged left new bytes (Ok c) t short j
checked left new bytes (Err (fault.Syntax at)) t short j = was_judged left new bytes (Err (fault.Syntax at)) t short j
checked left new bytes (Err (fault.Refused n failed)) t short j = was_judged left new bytes (Err (fault.Refused n failed)) t short j
checked left new bytes (Err (fault.NoLine n cited)) t short j = was_judged left new bytes (Err (fault.NoLine n cited)) t short j
checked left new bytes (Err (fault.Unguarded p)) t short j = was_judged left new bytes (Err (fault.Unguarded p)) t short j
checked left new bytes (Err (fault.Deep at)) t short j = was_judged left new bytes (Err (fault.Deep at)) t short j
checked left new bytes (Err fault.Long) t short j = absurd (never_long bytes j)
checked left new bytes (Err fault.Read) t short j = tt
checked left new bytes (Err fault.Memory) t short j = tt

pub checked_read : (left : Option (List ℕ)) → IsChecked left (Err fault.Read)
checked_read left = tt

pub checked_memory : (left : Option (List ℕ)) → IsChecked left (Err fault.Memory)
checked_memory left = tt

-- ---- each cause has its answer

shorter : (bytes : List ℕ) (r : Answer) → length bytes ≤ 2 ^ 63 → HasItsAnswer bytes r → HasItsAnswerRead bytes r
shorter bytes r short h = record {
  derivation = λ c d fits. elim (h.derivation c d) [ inl memory ↦ inl memory | inr is ↦ inr (inr is) ];
  offence = λ f first fits. elim (h.offence f first) [ inl memory ↦ inl memory | inr is ↦ inr (inr is) ];
  long = λ long. let many = long.many in absurd (omega arith);
}

pub answered : (left new : Option (List ℕ)) (bytes : List ℕ) (r : Answer) → TakesAll left new bytes → length bytes ≤ 2 ^ 63 → HasItsAnswer bytes r → IfTold left (λ xs. HasItsAnswerRead xs r)
answered None new bytes r t short h = tt
answered (Some xs) new bytes r t short h = subst (λ (ys : List ℕ). HasItsAnswerRead ys r) (sym t.0) (shorter bytes r short h)

pub answered_read : (left : Option (List ℕ)) → IfTold left (λ xs. HasItsAnswerRead xs (Err fault.Read))
answered_read None = tt
answered_read (Some xs) = record { derivation = λ c d fits. inr (inl refl); offence = λ f first fits. inr (inl refl); long = λ long. inr (inl refl) }

pub answered_memory : (left : Option (List ℕ)) → IfTold left (λ xs. HasItsAnswerRead xs (Err fault.Memory))
answered_memory None = tt
answered_memory (Some xs) = record { derivation = λ c d fits. inl refl; offence = λ f first fits. inl refl; long = λ long. inl refl }

-- ---- what stands besides

pub at_end : (left new : Option (List ℕ)) (bytes : List ℕ) → TakesAll left new bytes → IsReadToEnd left new
at_end None new bytes t = tt
at_end (Some xs) new bytes t = t.1

pub ended : (left new : Option (List ℕ)) (bytes : List ℕ) (r : Answer) → TakesAll left new bytes → IfOk r (λ c. IsReadToEnd left new)
ended left new bytes (Ok c) t = at_end left new bytes t
ended left new bytes (Err f) t = tt

pub states_truth : (bytes : List ℕ) (r : Answer) → Judges bytes r → IfOk r (λ c. AllByRecursion (IsTrueStatement c.preds) c.statements)
states_truth bytes (Ok c) j = statements_true bytes c.preds c.statements j
states_truth bytes (Err f) j = tt

pub not_read : (bytes : List ℕ) (r : Answer) → Judges bytes r → r ≡ Err fault.Read → ⊥
not_read bytes (Ok c) j is = cc
not_read bytes (Err f) j is =
    let same : f ≡ fault.Read = cc in
    elim j [ inl memory ↦ wanting (sym memory ∙ same) | inr first ↦ offence_read bytes f first same ]
  where
    wanting : (let g : CheckFault = fault.Memory in g) ≡ fault.Read → ⊥
    wanting e = cc
