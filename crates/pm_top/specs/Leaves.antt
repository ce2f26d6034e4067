-- What a run leaves: at the sink by its status, and of the source.
use Rattle.std.specs.Prelude.{◌≡◌, ◌⊎◌, ℕ, ◌≤◌, List, length, Option, Some, IsSome, ⊤}
use Rattle.std.specs.Io.KnownBytes.{Appends, Keeps}
use Rattle.pm_io.specs.Taken.{AppendsFront}
use Rattle.pm_top.specs.declared.command.Command.{Command}
use Rattle.pm_top.specs.declared.command.Command.TheVariants.{Run}
use Rattle.pm_top.specs.declared.status.Status.{Status}
use Rattle.pm_top.specs.declared.status.Status.TheVariants as status
use Rattle.pm_logic.specs.declared.formula.Pred.{Pred}
use Rattle.pm_check.specs.declared.checked.Statement.{Statement}
use Rattle.pm_run.specs.Runs.{accepted, RunsTo}
use Rattle.pm_run.specs.Coming.{limit}
use Rattle.pm_top.specs.Answers.{Defines}

-- a status that the words and the input alone decide
abbrev pub IsAnswer : Status → Type 0
IsAnswer status.Done = ⊤
IsAnswer status.Refused = ⊤
IsAnswer status.Unreadable = ⊤
IsAnswer status.Usage = ⊤
IsAnswer status.TooLong = ⊤
IsAnswer status.ReadFault = ⊥
IsAnswer status.WriteFault = ⊥
IsAnswer status.Memory = ⊥

-- the whole text of this answer was written
pub record Writes (command : Option Command) (input : Option (List ℕ)) (s : Status) (old new : Option (List ℕ)) : Type 0 where
  pub text : List ℕ
  pub defined : Defines command input s text
  pub appended : Appends old new text

-- a front of the text of some answer was written
pub record WritesFront (command : Option Command) (input : Option (List ℕ)) (old new : Option (List ℕ)) : Type 0 where
  pub s : Status
  pub text : List ℕ
  pub defined : Defines command input s text
  pub appended : AppendsFront old new text

-- what the sink holds behind each status
abbrev pub Leaves : Option Command → Option (List ℕ) → Option (List ℕ) → Option (List ℕ) → Status → Type 0
Leaves command input old new status.ReadFault = IsSome command × Keeps old new
Leaves command input old new status.WriteFault = WritesFront command input old new
Leaves command input old new status.Memory = Keeps old new ⊎ WritesFront command input old new
Leaves command input old new s = Writes command input s old new

-- whether the words and the input define the text too: lemmas have many derivations
abbrev pub DefinesText : Option Command → Status → Type 0
DefinesText (Some Run) status.Done = ⊥
DefinesText _ _ = ⊤

-- where the input is told: an answer is the one that is defined, and its text was written whole
pub record IsDefined (command : Option Command) (input : Option (List ℕ)) (old new : Option (List ℕ)) (r : Status) : Type 0 where
  pub only : (bytes : List ℕ) → input ≡ Some bytes → (s : Status) (text : List ℕ) → Defines command input s text → IsAnswer r → (r ≡ s) × (DefinesText command s → Appends old new text)
  -- a script of which no sentence is refused is answered by success
  pub accepts : (bytes : List ℕ) → input ≡ Some bytes → command ≡ Some Run → length bytes ≤ limit → (preds : List Pred) (lemmas : List Statement) → RunsTo bytes (accepted preds lemmas) → IsAnswer r → r ≡ status.Done
