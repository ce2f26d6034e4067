-- What `run` answers to an input: there is one status, one line where a script isn't accepted, and the lemmas are true.
use Rattle.std.proofs.Common.{◌≡◌, ℕ, ◌≤◌, List, length, [], ◌∷◌, ◌++◌, append_assoc, refl, sym, ◌∙◌, ap, subst, Option, Some}
use Rattle.std.specs.Prelude.{codes}
use Rattle.std.specs.Fmt.{decimal}
use Rattle.std.specs.Io.KnownBytes.{Appends}
use Rattle.pm_logic.specs.declared.formula.Pred.{Pred}
use Rattle.pm_check.specs.declared.checked.Statement.{Statement}
use Rattle.pm_check.proofs.Truth.{statements_true}
use Rattle.pm_terms.specs.declared.fault.TextFault.{TextFault}
use Rattle.pm_goal.specs.declared.refusal.Refusal.{Refusal}
use Rattle.pm_run.specs.declared.ran.Ran.{Ran}
use Rattle.pm_run.specs.declared.ran.Ran.TheVariants as ran
use Rattle.pm_run.specs.Coming.{ComesTo}
use Rattle.pm_run.specs.Runs.{Outcome, accepted, refused, unreadable, RunsTo}
use Rattle.pm_top.specs.declared.status.Status.{Status}
use Rattle.pm_top.specs.declared.status.Status.TheVariants as status
use Rattle.pm_top.specs.declared.command.Command.TheVariants as command
use Rattle.pm_top.specs.RunTexts.{row_text, name_text, refusal_line, fault_line}
use Rattle.pm_top.specs.Answers.{longest_derivation, Runs, Runs.proves, Runs.refuses, Runs.is_unreadable}
use Rattle.pm_top.specs.Leaves.{DefinesText}
use Rattle.pm_top.specs.Truth.{ProvesTruth}
use Rattle.pm_run.proofs.OneRun.{runs_are_one}

-- ---- the line of a refusal

glue : (a d b e c r n z : List ℕ) → a ++ (d ++ (b ++ (e ++ c))) ++ r ++ n ++ z ≡ a ++ (d ++ (b ++ (e ++ (c ++ (r ++ (n ++ z))))))
glue a d b e c r n z =
    let more : List ℕ = r ++ (n ++ z) in
    append_assoc (a ++ (d ++ (b ++ (e ++ c))) ++ r) n z ∙ append_assoc (a ++ (d ++ (b ++ (e ++ c)))) r (n ++ z) ∙ append_assoc a (d ++ (b ++ (e ++ c))) more
    ∙ ap (λ (x : List ℕ). a ++ x) (append_assoc d (b ++ (e ++ c)) more ∙ ap (λ (x : List ℕ). d ++ x) (append_assoc b (e ++ c) more ∙ ap (λ (x : List ℕ). b ++ x) (append_assoc e c more)))

pub spelled : (n at : ℕ) (refusal : Refusal) (place first second third : List ℕ) → place ≡ codes "refused: sentence " ++ (decimal n ++ (codes " at " ++ (decimal at ++ codes ": "))) → first ≡ place ++ row_text refusal.row → second ≡ first ++ name_text refusal.name → third ≡ second ++ 10 ∷ [] → third ≡ refusal_line n at refusal
spelled n at refusal place first second third e f g h =
    let end : List ℕ = 10 ∷ [] in
    h ∙ ap (λ (x : List ℕ). x ++ end) (g ∙ ap (λ (x : List ℕ). x ++ name_text refusal.name) (f ∙ ap (λ (x : List ℕ). x ++ row_text refusal.row) e))
    ∙ glue (codes "refused: sentence ") (decimal n) (codes " at ") (decimal at) (codes ": ") (row_text refusal.row) (name_text refusal.name) end

-- ---- one answer

abbrev status_of : Outcome → Status
status_of (accepted preds lemmas) = status.Done
status_of (refused n at refusal) = status.Refused
status_of (unreadable fault) = status.Unreadable

abbrev line_of : Outcome → List ℕ
line_of (accepted preds lemmas) = []
line_of (refused n at refusal) = refusal_line n at refusal
line_of (unreadable fault) = fault_line fault

-- what a script came to, which tells the status, and the text where it isn't accepted
record Came (bytes : List ℕ) (s : Status) (text : List ℕ) : Type 0 where
  outcome : Outcome
  runs : RunsTo bytes outcome
  told : s ≡ status_of outcome
  line : DefinesText (Some command.Run) s → text ≡ line_of outcome

came : (bytes : List ℕ) (s : Status) (text : List ℕ) → Runs bytes s text → Came bytes s text
came bytes _ text (proves _ p few) = record { outcome = accepted p.preds.list p.lemmas; runs = p.runs; told = refl; line = λ no. absurd no }
came bytes _ _ (refuses n at refusal h) = record { outcome = refused n at refusal; runs = h; told = refl; line = λ t. refl }
came bytes _ _ (is_unreadable fault h) = record { outcome = unreadable fault; runs = h; told = refl; line = λ t. refl }

abbrev Same : Status → List ℕ → Status → List ℕ → Type 0
Same s text r line = (s ≡ r) × (DefinesText (Some command.Run) r → text ≡ line)

pub one_run_answer : (bytes : List ℕ) (s r : Status) (text line : List ℕ) → Runs bytes s text → Runs bytes r line → Same s text r line
one_run_answer bytes s r text line h k =
    let a = came bytes s text h in
    let b = came bytes r line k in
    let one : a.outcome ≡ b.outcome = runs_are_one bytes a.outcome b.outcome a.runs b.runs in
    let same : s ≡ r = a.told ∙ ap status_of one ∙ sym b.told in
    (same, λ t. a.line (subst (DefinesText (Some command.Run)) (sym same) t) ∙ ap line_of one ∙ sym (b.line t))

-- where no sentence is refused the answer is success
pub accepted_done : (bytes : List ℕ) (r : Status) (text : List ℕ) → Runs bytes r text → (preds : List Pred) (lemmas : List Statement) → RunsTo bytes (accepted preds lemmas) → r ≡ status.Done
accepted_done bytes r text h preds lemmas k =
    let a = came bytes r text h in
    a.told ∙ ap status_of (runs_are_one bytes a.outcome (accepted preds lemmas) a.runs k)

-- ---- the lemmas are true

pub run_truth : (bytes : List ℕ) (old new : Option (List ℕ)) (s : Status) (text : List ℕ) → s ≡ status.Done → Appends old new text → Runs bytes s text → ProvesTruth bytes old new
run_truth bytes old new _ text e w (proves _ p few) = record {
  preds = p.preds;
  lemmas = p.lemmas;
  runs = p.runs;
  text = text;
  derivation = p.derivation;
  appended = w;
  each = statements_true text p.preds p.lemmas p.derivation;
}
run_truth bytes old new _ _ e w (refuses n at refusal h) = absurd cc
run_truth bytes old new _ _ e w (is_unreadable fault h) = absurd cc

-- ---- from what the run gives

pub ran_accepted : (bytes : List ℕ) (r : Ran) (text : List ℕ) → ComesTo bytes r → r ≡ ran.Accepted text → length text ≤ longest_derivation → Runs bytes status.Done text
ran_accepted bytes r text h e few = proves text (subst (ComesTo bytes) e h) few

pub ran_refused : (bytes : List ℕ) (r : Ran) (n at : ℕ) (refusal : Refusal) (line : List ℕ) → ComesTo bytes r → r ≡ ran.Refused n at refusal → line ≡ refusal_line n at refusal → Runs bytes status.Refused line
ran_refused bytes r n at refusal line h e same = subst (Runs bytes status.Refused) (sym same) (refuses n at refusal (subst (ComesTo bytes) e h))

pub ran_unreadable : (bytes : List ℕ) (r : Ran) (fault : TextFault) (line : List ℕ) → ComesTo bytes r → r ≡ ran.Unreadable fault → line ≡ fault_line fault → Runs bytes status.Unreadable line
ran_unreadable bytes r fault line h e same = subst (Runs bytes status.Unreadable) (sym same) (is_unreadable fault (subst (ComesTo bytes) e h))
