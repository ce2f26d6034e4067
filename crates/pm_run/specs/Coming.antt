-- What a script comes to, with what is written for it.
use Rattle.std.specs.Prelude.{◌≡◌, ℕ, List}
use Rattle.pm_logic.specs.declared.limits.TheConstants.{MAX_SCRIPT}
use Rattle.pm_logic.specs.declared.formula.Preds.{Preds}
use Rattle.pm_check.specs.declared.checked.Statement.{Statement}
use Rattle.pm_check.specs.Derivation.{IsDerivation}
use Rattle.pm_run.specs.declared.ran.Ran.{Ran}
use Rattle.pm_run.specs.declared.ran.Ran.TheVariants as ran
use Rattle.pm_run.specs.Runs.{Outcome, accepted, refused, unreadable, RunsTo}

-- the longest script
abbrev pub limit : ℕ
limit = MAX_SCRIPT

-- nothing is refused, and the text is a derivation of exactly the lemmas, over exactly the predicates
pub record Proves (bytes text : List ℕ) : Type 0 where
  pub preds : Preds
  pub lemmas : List Statement
  pub runs : RunsTo bytes (accepted preds.list lemmas)
  pub derivation : IsDerivation text preds lemmas

abbrev pub ComesTo : List ℕ → Ran → Type 0
ComesTo bytes (ran.Accepted text) = Proves bytes text
ComesTo bytes (ran.Refused number offset refusal) = RunsTo bytes (refused number offset refusal)
ComesTo bytes (ran.Unreadable fault) = RunsTo bytes (unreadable fault)

-- a script comes to one thing
abbrev pub RunsAreOne : Type 0
RunsAreOne = (bytes : List ℕ) (a b : Outcome) → RunsTo bytes a → RunsTo bytes b → a ≡ b

-- a script comes to something
abbrev pub RunsAreTotal : Type 0
RunsAreTotal = (bytes : List ℕ) → (o : Outcome) × RunsTo bytes o
