-- The first offence of a text, in the order of reading.
use Rattle.std.specs.Prelude.{◌≡◌, ◌≢◌, ℕ, ◌-◌, List, [], length, codes, Option, Err, if◌then◌else◌}
use Rattle.std.specs.Str.{bytes_eq}
use Rattle.pm_logic.specs.declared.formula.Pred.{Pred}
use Rattle.pm_logic.specs.declared.formula.Preds.{Preds}
use Rattle.pm_logic.specs.Guard.{CallsBelow}
use Rattle.pm_rules.specs.declared.rules.Rule.{Rule}
use Rattle.pm_rules.specs.declared.rules.Entail.{Entail}
use Rattle.pm_rules.specs.declared.rules.Unmet.{Unmet}
use Rattle.pm_dtext.specs.declared.line.Line.{Line}
use Rattle.pm_dtext.specs.declared.line.Line.TheVariants.{Step, Qed}
use Rattle.pm_dtext.specs.declared.fault.Fault.{Fault}
use Rattle.pm_dtext.specs.declared.fault.Fault.TheVariants as reading
use Rattle.pm_dtext.specs.Spelling.{header_text, line_text, pred_text}
use Rattle.pm_dtext.specs.Ranges.{HasArity, LineFits, PredFits}
use Rattle.pm_dtext.specs.Reading.{word, header_at, arities_at, pred_at, line_at}
use Rattle.pm_dtext.specs.Texts.{arities_of, names_of}
use Rattle.pm_check.specs.declared.fault.CheckFault.{CheckFault}
use Rattle.pm_check.specs.declared.fault.CheckFault.TheVariants.{Syntax, Refused, NoLine, Unguarded, Deep}
use Rattle.pm_check.specs.declared.fault.QedCondition.{QedCondition}
use Rattle.pm_check.specs.declared.fault.Failed.TheVariants as failed
use Rattle.pm_check.specs.Table.{table_text, BeginsTable}
use Rattle.pm_check.specs.Lines.{steps, names, StepFails, QedFails}
use Rattle.pm_check.specs.Derivation.{next_number, Begins}

-- a fault of reading, which says how many bytes are left, by its offset; a citation is one of this line
abbrev pub placed : List ℕ → ℕ → Fault → CheckFault
placed bytes line (reading.Syntax left) = Syntax (length bytes - left)
placed bytes line (reading.NoLine cited) = NoLine line cited
placed bytes line (reading.Deep left) = Deep (length bytes - left)

-- the number that is named for the line at the front of the rest: its own, and for a `qed` the last proof line's
abbrev pub line_named : List Line → List ℕ → ℕ
line_named before rest = if bytes_eq (word rest) (codes "qed") then length (steps before) else next_number before

pub data FirstOffence (bytes : List ℕ) : CheckFault → Type 0 where
  -- the first line can't be read
  header : (f : Fault) → header_at bytes ≡ Err f → FirstOffence bytes (placed bytes 0 f)
  -- the arities
  arities : (rest : List ℕ) (f : Fault) → bytes ≡ header_text rest → arities_at rest ≡ Err f → FirstOffence bytes (placed bytes 0 f)
  -- a predicate
  predicate : (table : List ℕ) (preds : List Pred) (arity : ℕ) (rest : List ℕ) (f : Fault) → bytes ≡ table_text table preds rest → BeginsTable table preds → HasArity table (length preds) arity → pred_at table (names_of preds) arity rest ≡ Err f → FirstOffence bytes (placed bytes 0 f)
  -- a predicate isn't guarded
  unguarded : (table : List ℕ) (preds : List Pred) (q : Pred) (rest : List ℕ) → bytes ≡ table_text table preds (pred_text q rest) → BeginsTable table preds → PredFits table (names_of preds) q → ¬ CallsBelow (length preds) q.body → FirstOffence bytes (Unguarded (length preds))
  -- a line can't be read
  line : (preds : Preds) (ls : List Line) (rest : List ℕ) (f : Fault) → Begins bytes preds ls rest → rest ≢ [] → line_at (arities_of preds.list) (next_number ls) rest ≡ Err f → FirstOffence bytes (placed bytes (line_named ls rest) f)
  -- a proof line doesn't follow
  step : (preds : Preds) (ls : List Line) (rule : Rule) (first second : Option ℕ) (e : Entail) (rest : List ℕ) (unmet : Unmet) → Begins bytes preds ls (line_text (next_number ls) (Step rule first second e) rest) → LineFits (arities_of preds.list) (next_number ls) (Step rule first second e) → StepFails preds (steps ls) rule first second e unmet → FirstOffence bytes (Refused (next_number ls) (failed.Step unmet))
  -- a `qed` doesn't follow
  qed : (preds : Preds) (ls : List Line) (name : List ℕ) (cited : ℕ) (rest : List ℕ) (condition : QedCondition) → Begins bytes preds ls (line_text (next_number ls) (Qed name cited) rest) → LineFits (arities_of preds.list) (next_number ls) (Qed name cited) → QedFails (steps ls) (names ls) name cited condition → FirstOffence bytes (Refused cited (failed.Qed condition))
