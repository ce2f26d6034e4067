-- What the program answers: a status and a text, by the words and the input.
use Rattle.std.specs.Prelude.{◌≡◌, ℕ, ◌-◌, ◌<◌, ◌≤◌, ◌^◌, List, [], ◌∷◌, ◌++◌, length, codes, slice_get, Option, Some, None, if◌then◌else◌}
use Rattle.std.specs.Fmt.{decimal}
use Rattle.std.specs.Str.{bytes_eq}
use Rattle.std.specs.String.{string_bytes}
use Rattle.std.specs.declared.string.String.{String}
use Rattle.std.specs.declared.alloc.Global.{Global}
use Rattle.pm_logic.specs.declared.formula.Preds.{Preds}
use Rattle.pm_dtext.specs.Texts.{printed_names}
use Rattle.pm_check.specs.declared.checked.Statement.{Statement}
use Rattle.pm_check.specs.declared.fault.CheckFault.{CheckFault}
use Rattle.pm_check.specs.declared.fault.CheckFault.TheVariants as offence
use Rattle.pm_check.specs.Lines.{failed_rule, failed_condition}
use Rattle.pm_check.specs.Derivation.{IsDerivation}
use Rattle.pm_check.specs.Offence.{FirstOffence}
use Rattle.pm_check.specs.Answers.{IsTooLong, IfTold}
use Rattle.pm_terms.specs.declared.fault.TextFault.{TextFault}
use Rattle.pm_goal.specs.declared.refusal.Refusal.{Refusal}
use Rattle.pm_run.specs.Runs.{refused, unreadable, RunsTo}
use Rattle.pm_run.specs.Coming.{limit, Proves}
use Rattle.pm_top.specs.Printed.{line_feed, accepted_text}
use Rattle.pm_top.specs.RunTexts.{refusal_line, fault_line}
use Rattle.pm_top.specs.Shown.{Shows}
use Rattle.pm_top.specs.declared.command.Command.{Command}
use Rattle.pm_top.specs.declared.command.Command.TheVariants.{Check, Run, Goals}
use Rattle.pm_top.specs.declared.status.Status.{Status}
use Rattle.pm_top.specs.declared.status.Status.TheVariants as status

-- ---- the words

-- the command that the words name
abbrev pub command_of : List (String Global) → Option Command
command_of (w ∷ []) = if bytes_eq (string_bytes w) (codes "check") then Some Check else if bytes_eq (string_bytes w) (codes "run") then Some Run else if bytes_eq (string_bytes w) (codes "goals") then Some Goals else None
command_of _ = None

-- ---- the lines that are written, each with its line feed

abbrev pub text_or_none : Option (List ℕ) → List ℕ
text_or_none (Some text) = text
text_or_none None = []

-- the name of a rule by its number, and `qed` for 68
abbrev pub rule_text : ℕ → List ℕ
rule_text rule = text_or_none (slice_get printed_names (rule - 1))

-- the line for the first offence of a derivation text
unfoldable pub offence_line : CheckFault → List ℕ
offence_line (offence.Syntax at) = codes "unreadable at " ++ (decimal at ++ (codes ": syntax" ++ line_feed))
offence_line (offence.Refused n failed) = codes "refused: line " ++ (decimal n ++ (codes ": " ++ (rule_text (failed_rule failed) ++ (codes " condition " ++ (decimal (failed_condition failed) ++ line_feed)))))
offence_line (offence.NoLine n cited) = codes "refused: line " ++ (decimal n ++ (codes " cites " ++ (decimal cited ++ line_feed)))
offence_line (offence.Unguarded p) = codes "refused: predicate " ++ (decimal p ++ (codes " is unguarded" ++ line_feed))
offence_line (offence.Deep at) = codes "unreadable at " ++ (decimal at ++ (codes ": deep" ++ line_feed))
offence_line offence.Long = codes "too long" ++ line_feed
offence_line offence.Read = []
offence_line offence.Memory = []

unfoldable pub offence_status : CheckFault → Status
offence_status (offence.Syntax at) = status.Unreadable
offence_status (offence.Refused n failed) = status.Refused
offence_status (offence.NoLine n cited) = status.Refused
offence_status (offence.Unguarded p) = status.Refused
offence_status (offence.Deep at) = status.Unreadable
offence_status offence.Long = status.TooLong
offence_status offence.Read = status.ReadFault
offence_status offence.Memory = status.Memory

abbrev pub too_long_line : List ℕ
too_long_line = codes "too long" ++ line_feed

abbrev pub usage_line : List ℕ
usage_line = codes "usage: mosel run | check | session | goals | selftest N" ++ line_feed

-- ---- the answers

-- what `check` answers to an input, and what it writes for it
pub data Checks (bytes : List ℕ) : Status → List ℕ → Type 0 where
  accepts : (preds : Preds) (statements : List Statement) → IsDerivation bytes preds statements → Checks bytes status.Done (accepted_text preds statements)
  refuses : (f : CheckFault) → FirstOffence bytes f → Checks bytes (offence_status f) (offence_line f)

-- the longest derivation that `check` reads
abbrev pub longest_derivation : ℕ
longest_derivation = 2 ^ 63

-- what `run` answers to an input, and what it writes for it: a derivation of exactly the script's lemmas, no longer than `check` reads, or a line
pub data Runs (bytes : List ℕ) : Status → List ℕ → Type 0 where
  proves : (text : List ℕ) → Proves bytes text → length text ≤ longest_derivation → Runs bytes status.Done text
  refuses : (number offset : ℕ) (refusal : Refusal) → RunsTo bytes (refused number offset refusal) → Runs bytes status.Refused (refusal_line number offset refusal)
  is_unreadable : (fault : TextFault) → RunsTo bytes (unreadable fault) → Runs bytes status.Unreadable (fault_line fault)

abbrev pub Answers : Command → List ℕ → Status → List ℕ → Type 0
Answers Check bytes s text = Checks bytes s text
Answers Run bytes s text = Runs bytes s text
Answers Goals bytes s text = Shows bytes s text

abbrev pub ReadsScripts : Command → Type 0
ReadsScripts Check = ⊥
ReadsScripts Run = Unit {0}
ReadsScripts Goals = Unit {0}

-- the longest input that the command answers; more than a check's longest is never held in memory
abbrev pub longest : Command → ℕ
longest Check = longest_derivation
longest Run = limit
longest Goals = limit

-- an input that the command gives up on
abbrev pub IsLong : Command → List ℕ → Type 0
IsLong Check bytes = IsTooLong bytes
IsLong Run bytes = limit < length bytes
IsLong Goals bytes = limit < length bytes

-- the status and the text that the words and the input define; the input is some input, where it isn't told
pub data Defines : Option Command → Option (List ℕ) → Status → List ℕ → Type 0 where
  usage : (input : Option (List ℕ)) → Defines None input status.Usage usage_line
  answer : (command : Command) (input : Option (List ℕ)) (bytes : List ℕ) (s : Status) (text : List ℕ) → IfTold input (λ known. known ≡ bytes) → length bytes ≤ longest command → Answers command bytes s text → Defines (Some command) input s text
  too_long : (command : Command) (input : Option (List ℕ)) → IfTold input (IsLong command) → Defines (Some command) input status.TooLong too_long_line
