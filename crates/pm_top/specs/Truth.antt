-- The truth of what is accepted, in the model.
use Rattle.std.specs.Prelude.{ℕ, List, Option, Some, None, ⊤}
use Rattle.std.specs.List.{AllByRecursion}
use Rattle.std.specs.Io.KnownBytes.{Appends}
use Rattle.pm_logic.specs.declared.formula.Preds.{Preds}
use Rattle.pm_check.specs.declared.checked.Statement.{Statement}
use Rattle.pm_check.specs.Derivation.{IsDerivation}
use Rattle.pm_check.specs.Truth.{IsTrueStatement}
use Rattle.pm_run.specs.Runs.{accepted, RunsTo}
use Rattle.pm_top.specs.declared.command.Command.{Command}
use Rattle.pm_top.specs.declared.command.Command.TheVariants.{Check, Run, Goals}

-- the bytes are a derivation, and each of its statements is true under its table: at every step, in every environment, by every resource
pub record SaysTruth (bytes : List ℕ) : Type 0 where
  pub preds : Preds
  pub statements : List Statement
  pub derivation : IsDerivation bytes preds statements
  pub each : AllByRecursion (IsTrueStatement preds) statements

-- the bytes are a script whose sentences prove exactly the lemmas over exactly the predicates, what was written is a derivation of them, and each lemma is true under that table
pub record ProvesTruth (bytes : List ℕ) (old new : Option (List ℕ)) : Type 0 where
  pub preds : Preds
  pub lemmas : List Statement
  pub runs : RunsTo bytes (accepted preds.list lemmas)
  pub text : List ℕ
  pub derivation : IsDerivation text preds lemmas
  pub appended : Appends old new text
  pub each : AllByRecursion (IsTrueStatement preds) lemmas

-- what is true where a command accepts the bytes
abbrev pub SaysTrue : Option Command → (old new : Option (List ℕ)) → List ℕ → Type 0
SaysTrue None old new bytes = ⊤
SaysTrue (Some Check) old new bytes = SaysTruth bytes
SaysTrue (Some Run) old new bytes = ProvesTruth bytes old new
SaysTrue (Some Goals) old new bytes = ⊤
