-- What `check` answers to an input: there is one answer, and what is accepted is true.
use Rattle.std.proofs.Common.{◌≡◌, ℕ, ◌≤◌, ◌^◌, List, length, refl, ◌∙◌, ap, arith}
use Rattle.pm_logic.specs.declared.formula.Preds.{Preds}
use Rattle.pm_check.specs.declared.fault.CheckFault.{CheckFault}
use Rattle.pm_check.specs.declared.fault.CheckFault.TheVariants as fault
use Rattle.pm_check.proofs.Verdicts.{verdicts_are_one}
use Rattle.pm_check.proofs.Truth.{statements_true}
use Rattle.pm_top.specs.declared.status.Status.{Status}
use Rattle.pm_top.specs.declared.status.Status.TheVariants as status
use Rattle.pm_top.specs.Truth.{SaysTruth}
use Rattle.pm_top.specs.Printed.{accepted_text}
use Rattle.pm_top.specs.Answers.{offence_line, offence_status, Checks, Checks.accepts, Checks.refuses}

abbrev Same : Status → List ℕ → Status → List ℕ → Type 0
Same s text r line = (s ≡ r) × (text ≡ line)

pub one_answer : (bytes : List ℕ) (s r : Status) (text line : List ℕ) → length bytes ≤ 2 ^ 63 → Checks bytes s text → Checks bytes r line → Same s text r line
one_answer bytes _ _ _ _ few (accepts preds statements d) (accepts others states d') = let same = verdicts_are_one.derivation bytes preds others statements states (omega arith) d d' in (refl, ap (λ (p : Preds). accepted_text p statements) same.0 ∙ ap (accepted_text others) same.1)
one_answer bytes _ _ _ _ few (accepts preds statements d) (refuses f o) = absurd (verdicts_are_one.not_both bytes preds statements f (omega arith) d o)
one_answer bytes _ _ _ _ few (refuses f o) (accepts preds statements d) = absurd (verdicts_are_one.not_both bytes preds statements f (omega arith) d o)
one_answer bytes _ _ _ _ few (refuses f o) (refuses g p) = let same = verdicts_are_one.offence bytes f g (omega arith) o p in (ap offence_status same, ap offence_line same)

accepts_not : (f : CheckFault) → offence_status f ≡ status.Done → ⊥
unfolding offence_status
accepts_not (fault.Syntax at) e = cc
accepts_not (fault.Refused n failed) e = cc
accepts_not (fault.NoLine n cited) e = cc
accepts_not (fault.Unguarded p) e = cc
accepts_not (fault.Deep at) e = cc
accepts_not fault.Long e = cc
accepts_not fault.Read e = cc
accepts_not fault.Memory e = cc

pub says_truth : (bytes : List ℕ) (s : Status) (text : List ℕ) → s ≡ status.Done → Checks bytes s text → SaysTruth bytes
says_truth bytes _ _ e (accepts preds statements d) = record { preds = preds; statements = statements; derivation = d; each = statements_true bytes preds statements d }
says_truth bytes _ _ e (refuses f o) = absurd (accepts_not f e)
