-- What a run leaves at the sink.
use Rattle.std.proofs.Common.{◌≡◌, ℕ, ◌<◌, ◌≤◌, List, length, refl, sym, subst, arith, Option, Some, None, inr}
use Rattle.std.specs.Io.KnownBytes.{Appends}
use Rattle.pm_io.specs.Taken.{TakesAll, HasMoreThan, AppendsFront}
use Rattle.pm_logic.specs.declared.formula.Pred.{Pred}
use Rattle.pm_check.specs.declared.checked.Statement.{Statement}
use Rattle.pm_run.specs.Runs.{accepted, RunsTo}
use Rattle.pm_run.specs.Coming.{limit}
use Rattle.pm_check.specs.Answers.{IfTold}
use Rattle.pm_top.specs.Truth.{SaysTrue}
use Rattle.pm_top.specs.declared.command.Command.{Command}
use Rattle.pm_top.specs.declared.command.Command.TheVariants.{Check, Run, Goals}
use Rattle.pm_top.specs.declared.status.Status.{Status}
use Rattle.pm_top.specs.declared.status.Status.TheVariants as status
use Rattle.pm_top.specs.Answers.{too_long_line, Checks, Runs, Answers, ReadsScripts, IsLong, longest, Defines, Defines.usage, Defines.answer, Defines.too_long}
use Rattle.pm_top.specs.Leaves.{IsAnswer, Writes, Leaves, DefinesText, IsDefined}
use Rattle.pm_top.proofs.Answering.{one_answer, says_truth}
use Rattle.pm_top.proofs.ShownAnswers.{one_shown}
use Rattle.pm_top.proofs.RunAnswers.{one_run_answer, accepted_done, run_truth}

-- ---- what is defined

script_long : (command : Command) → ReadsScripts command → (bytes : List ℕ) → 16777216 < length bytes → IsLong command bytes
script_long Check never bytes long = absurd never
script_long Run some bytes long = long
script_long Goals some bytes long = long

pub defines_long : (command : Command) → ReadsScripts command → (input : Option (List ℕ)) → HasMoreThan input 16777216 → Defines (Some command) input status.TooLong too_long_line
defines_long command some None h = Defines.too_long command None tt
defines_long command some (Some bytes) h = Defines.too_long command (Some bytes) (script_long command some bytes h)

script_short : (command : Command) → ReadsScripts command → (bytes : List ℕ) → length bytes ≤ 16777216 → length bytes ≤ longest command
script_short Check never bytes short = absurd never
script_short Run some bytes short = short
script_short Goals some bytes short = short

pub defines_script : (command : Command) → ReadsScripts command → (input left : Option (List ℕ)) (bytes : List ℕ) (s : Status) (text : List ℕ) → length bytes ≤ 16777216 → TakesAll input left bytes → Answers command bytes s text → Defines (Some command) input s text
defines_script command some None left bytes s text short h a = Defines.answer command None bytes s text tt (script_short command some bytes short) a
defines_script command some (Some xs) left bytes s text short h a = Defines.answer command (Some xs) bytes s text h.0 (script_short command some bytes short) a

-- ---- what the writer of a line leaves

pub leaves : (command : Option Command) (input old new : Option (List ℕ)) (s r : Status) (text : List ℕ) → Defines command input s text → ¬ (r ≡ status.ReadFault) → (IsAnswer r → (r ≡ s) × Appends old new text) → ((IsAnswer r → ⊥) → AppendsFront old new text) → Leaves command input old new r
leaves command input old new s r text d nr whole front = go r nr whole front
  where
    written : (q : Status) → (q ≡ s) × Appends old new text → Writes command input q old new
    written q w = record { text = text; defined = subst (λ (x : Status). Defines command input x text) (sym w.0) d; appended = w.1 }

    go : (q : Status) → ¬ (q ≡ status.ReadFault) → (IsAnswer q → (q ≡ s) × Appends old new text) → ((IsAnswer q → ⊥) → AppendsFront old new text) → Leaves command input old new q
    go status.ReadFault nr whole front = absurd (nr refl)
    go status.WriteFault nr whole front = record { s = s; text = text; defined = d; appended = front (λ h. h) }
    go status.Memory nr whole front = inr (record { s = s; text = text; defined = d; appended = front (λ h. h) })
    go status.Done nr whole front = written status.Done (whole tt)
    go status.Refused nr whole front = written status.Refused (whole tt)
    go status.Unreadable nr whole front = written status.Unreadable (whole tt)
    go status.Usage nr whole front = written status.Usage (whole tt)
    go status.TooLong nr whole front = written status.TooLong (whole tt)

-- ---- the answer is the one that is defined

not_long : (command : Command) (bytes : List ℕ) → length bytes ≤ longest command → ¬ IsLong command bytes
not_long Check bytes short long = let many = long.many in omega (arith, many, short)
not_long Run bytes short long = omega (arith, long, short)
not_long Goals bytes short long = omega (arith, long, short)

same_answer : (command : Command) (bytes : List ℕ) (s r : Status) (text line : List ℕ) → length bytes ≤ longest command → Answers command bytes s text → Answers command bytes r line → (s ≡ r) × (DefinesText (Some command) r → text ≡ line)
same_answer Check bytes s r text line few d e = let same = one_answer bytes s r text line few d e in (same.0, λ h. same.1)
same_answer Run bytes s r text line few d e = one_run_answer bytes s r text line d e
same_answer Goals bytes s r text line few d e = let same = one_shown bytes s r text line d e in (same.0, λ h. same.1)

same_defined : (command : Option Command) (bytes : List ℕ) (s r : Status) (text line : List ℕ) → Defines command (Some bytes) s text → Defines command (Some bytes) r line → (s ≡ r) × (DefinesText command r → text ≡ line)
same_defined _ bytes _ _ _ _ (usage _) (usage _) = (refl, λ h. refl)
same_defined _ bytes s r text line (answer command _ xs _ _ told short a) (answer _ _ ys _ _ told' short' b) =
    same_answer command bytes s r text line (subst (λ (x : List ℕ). length x ≤ longest command) (sym told) short) (subst (λ (x : List ℕ). Answers command x s text) (sym told) a) (subst (λ (x : List ℕ). Answers command x r line) (sym told') b)
same_defined _ bytes _ _ _ _ (answer command _ xs s text told short a) (too_long _ _ long) = absurd (not_long command xs short (subst (IsLong command) told long))
same_defined _ bytes _ _ _ _ (too_long command _ long) (answer _ _ ys r line told short b) = absurd (not_long command ys short (subst (IsLong command) told long))
same_defined _ bytes _ _ _ _ (too_long command _ long) (too_long _ _ long') = (refl, λ h. refl)

writes_of : (command : Option Command) (input old new : Option (List ℕ)) (r : Status) → IsAnswer r → Leaves command input old new r → Writes command input r old new
writes_of command input old new status.Done a w = w
writes_of command input old new status.Refused a w = w
writes_of command input old new status.Unreadable a w = w
writes_of command input old new status.Usage a w = w
writes_of command input old new status.TooLong a w = w
writes_of command input old new status.ReadFault a w = absurd a
writes_of command input old new status.WriteFault a w = absurd a
writes_of command input old new status.Memory a w = absurd a

accepted_answer : (command : Option Command) (bytes : List ℕ) (r : Status) (text : List ℕ) → Defines command (Some bytes) r text → command ≡ Some Run → length bytes ≤ limit → (preds : List Pred) (lemmas : List Statement) → RunsTo bytes (accepted preds lemmas) → r ≡ status.Done
accepted_answer _ bytes _ _ (usage _) e short preds lemmas h = absurd cc
accepted_answer _ bytes r text (answer Check _ xs _ _ told few a) e short preds lemmas h = absurd cc
accepted_answer _ bytes r text (answer Goals _ xs _ _ told few a) e short preds lemmas h = absurd cc
accepted_answer _ bytes r text (answer Run _ xs _ _ told few a) e short preds lemmas h = accepted_done bytes r text (subst (λ (b : List ℕ). Runs b r text) (sym told) a) preds lemmas h
accepted_answer _ bytes _ _ (too_long Check _ long) e short preds lemmas h = absurd cc
accepted_answer _ bytes _ _ (too_long Goals _ long) e short preds lemmas h = absurd cc
accepted_answer _ bytes _ _ (too_long Run _ long) e short preds lemmas h = absurd (omega (arith, short, long))

pub is_defined : (command : Option Command) (input old new : Option (List ℕ)) (r : Status) → Leaves command input old new r → IsDefined command input old new r
is_defined command input old new r l = record {
  only = λ bytes is s text d a.
      let w = writes_of command input old new r a l in
      let told : Defines command (Some bytes) r w.text = subst (λ (i : Option (List ℕ)). Defines command i r w.text) is w.defined in
      let same = same_defined command bytes r s w.text text told (subst (λ (i : Option (List ℕ)). Defines command i s text) is d) in
      (same.0, λ h. subst (λ (t : List ℕ). Appends old new t) (same.1 h) w.appended);
  accepts = λ bytes is e short preds lemmas runs a.
      let w = writes_of command input old new r a l in
      let told : Defines command (Some bytes) r w.text = subst (λ (i : Option (List ℕ)). Defines command i r w.text) is w.defined in
      accepted_answer command bytes r w.text told e short preds lemmas runs;
}

-- what a run of this command leaves
pub at_command : (command other : Option Command) (input old new : Option (List ℕ)) (r : Status) → other ≡ command → Leaves command input old new r → Leaves other input old new r
at_command command other input old new r e l = subst (λ (c : Option Command). Leaves c input old new r) (sym e) l

-- what is accepted is true
told_truth : (command : Option Command) (bytes : List ℕ) (old new : Option (List ℕ)) (text : List ℕ) → Defines command (Some bytes) status.Done text → Appends old new text → SaysTrue command old new bytes
told_truth _ bytes old new text (answer Check _ xs _ _ told short a) w = says_truth bytes status.Done text refl (subst (λ (b : List ℕ). Checks b status.Done text) (sym told) a)
told_truth _ bytes old new text (answer Run _ xs _ _ told short a) w = run_truth bytes old new status.Done text refl w (subst (λ (b : List ℕ). Runs b status.Done text) (sym told) a)
told_truth _ bytes old new text (answer Goals _ xs _ _ told short a) w = tt

pub leaves_truth : (command : Option Command) (input old new : Option (List ℕ)) (r : Status) → Leaves command input old new r → r ≡ status.Done → IfTold input (SaysTrue command old new)
leaves_truth command None old new r l e = tt
leaves_truth command (Some bytes) old new r l e =
    let w : Writes command (Some bytes) status.Done old new = subst (λ (q : Status). Leaves command (Some bytes) old new q) e l in
    told_truth command bytes old new w.text w.defined w.appended
