-- What the checker keeps of the lines that it has read.
use Rattle.std.specs.Prelude.{◌≡◌, ℕ, List, [], ◌∷◌, ◌++◌, length, Option, Result}
use Rattle.std.specs.List.{AllByRecursion}
use Rattle.pm_logic.specs.declared.formula.Pred.{Pred}
use Rattle.pm_logic.specs.declared.formula.Preds.{Preds}
use Rattle.pm_logic.specs.Guard.{CallsBelow}
use Rattle.pm_name_sets.specs.Sets.{has}
use Rattle.pm_rules.specs.declared.rules.Rule.{Rule}
use Rattle.pm_rules.specs.declared.rules.Entail.{Entail}
use Rattle.pm_rules.specs.declared.rules.Unmet.{Unmet}
use Rattle.pm_rules.specs.Rules.{AreFit, HasFitBodies}
use Rattle.pm_dtext.specs.declared.line.Line.{Line}
use Rattle.pm_dtext.specs.declared.line.Line.TheVariants.{Step, Qed}
use Rattle.pm_dtext.specs.declared.fault.ReadFault.{ReadFault}
use Rattle.pm_dtext.specs.declared.fault.ReadFault.TheVariants as read
use Rattle.pm_dtext.specs.Ranges.{LineFits}
use Rattle.pm_dtext.specs.Texts.{arities_of}
use Rattle.pm_check.specs.declared.fault.CheckFault.{CheckFault}
use Rattle.pm_check.specs.declared.fault.CheckFault.TheVariants.{Refused, Unguarded, Memory}
use Rattle.pm_check.specs.declared.fault.QedCondition.{QedCondition}
use Rattle.pm_check.specs.declared.fault.Failed.TheVariants as failed
use Rattle.pm_check.specs.declared.kept.Kept.{Kept}
use Rattle.pm_check.specs.Fronts.{EachBehind}
use Rattle.pm_check.specs.Table.{table_text, BeginsTable}
use Rattle.pm_check.specs.Lines.{steps, names, is_used, statements_behind, StepFails, QedFails}
use Rattle.pm_check.specs.Derivation.{next_number, IsNext}
use Rattle.pm_check.specs.Answers.{Gives}
use Rattle.pm_check.specs.Offence.{placed}

-- ---- faults of reading

-- the answer to a fault of reading
abbrev pub answered : List ℕ → ℕ → ReadFault → CheckFault
answered bytes line read.Memory = Memory
answered bytes line (read.Fault f) = placed bytes line f

-- ---- the table

-- a text begins with a table, and goes on with this rest
pub record HasTable (bytes : List ℕ) (preds : Preds) (rest : List ℕ) : Type 0 where
  pub text : bytes ≡ table_text (arities_of preds.list) preds.list rest
  pub table : BeginsTable (arities_of preds.list) preds.list

-- the next predicate is added where it is guarded
abbrev pub AddsPred : {T : Type 0} → List Pred → Pred → List Pred → Result T CheckFault → Type 0
AddsPred old q new r = Gives (λ _. (new ≡ old ++ q ∷ []) × CallsBelow (length old) q.body) (λ f. (f ≡ Unguarded (length old)) × ¬ CallsBelow (length old) q.body) r

-- ---- lines

-- the rules can be applied under the table, to the proof lines
pub record IsReady (preds : Preds) (es : List Entail) : Type 0 where
  pub bodies : HasFitBodies preds
  pub steps : AllByRecursion (AreFit preds) es

-- these lines were read and follow, and this is kept of them
pub record Keeps (preds : Preds) (ls : List Line) (k : Kept) : Type 0 where
  pub preds_are : k.preds ≡ preds
  pub each : EachBehind (IsNext preds) ls
  pub steps_are : k.steps.items ≡ steps ls
  pub names_are : (name : List ℕ) → has k.names name ≡ is_used (names ls) name
  pub statements_are : k.statements ≡ statements_behind [] ls

-- the line behind these lines doesn't follow
pub data Refuses (preds : Preds) (before : List Line) : Line → CheckFault → Type 0 where
  step : (rule : Rule) (first second : Option ℕ) (e : Entail) (unmet : Unmet) → StepFails preds (steps before) rule first second e unmet → Refuses preds before (Step rule first second e) (Refused (next_number before) (failed.Step unmet))
  qed : (name : List ℕ) (cited : ℕ) (condition : QedCondition) → QedFails (steps before) (names before) name cited condition → Refuses preds before (Qed name cited) (Refused cited (failed.Qed condition))

-- whatever lines are kept: the next one, in its ranges, is kept too, or doesn't follow
pub record TakesLine {T : Type 0} (old : Kept) (l : Line) (new : Kept) (r : Result T CheckFault) : Type 0 where
  pub behind : (preds : Preds) (ls : List Line) → Keeps preds ls old → LineFits (arities_of preds.list) (next_number ls) l → Gives (λ _. Keeps preds (ls ++ l ∷ []) new) (Refuses preds ls l) r
