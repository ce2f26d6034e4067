-- The spelling of lines and the reading of them are one grammar, and what fits is scoped.
use Rattle.std.specs.Prelude.{◌≡◌, ◌-◌, ◌<◌, ◌^◌, ℕ, List, length, codes, slice_get, Some, Ok}
use Rattle.pm_logic.specs.declared.formula.Formula.{Formula}
use Rattle.pm_logic.specs.declared.formula.Pred.{Pred}
use Rattle.pm_logic.specs.declared.formula.Preds.{Preds}
use Rattle.pm_logic.specs.Scope.{Scoped}
use Rattle.pm_logic.specs.Integers.{FormulaIsI64}
use Rattle.pm_rules.specs.declared.rules.Rule.{Rule}
use Rattle.pm_rules.specs.Rules.{rule_number}
use Rattle.pm_dtext.specs.declared.line.Line.{Line}
use Rattle.pm_dtext.specs.Spelling.{rule_name, line_text, header_text, arities_text, pred_text}
use Rattle.pm_dtext.specs.Ranges.{HasArity, InRange, LineFits, AritiesFit, PredFits}
use Rattle.pm_dtext.specs.Reading.{line_at, header_at, arities_at, pred_at}
use Rattle.pm_dtext.specs.Texts.{arities_of, printed_names}

-- what was read is in its ranges and is spelled so
pub record LineIsSpelled (arities : List ℕ) (n : ℕ) (bytes : List ℕ) (l : Line) (rest : List ℕ) : Type 0 where
  pub fits : LineFits arities n l
  pub spelled : bytes ≡ line_text n l rest

-- each line that is read is in its ranges and spelled so, and each line that is in its ranges and spelled so is read
pub record LinesAreRead : Type 0 where
  pub found : (arities : List ℕ) (n : ℕ) (bytes : List ℕ) (l : Line) (rest : List ℕ) → line_at arities n bytes ≡ Ok (l, rest) → LineIsSpelled arities n bytes l rest
  pub again : (arities : List ℕ) (n : ℕ) (l : Line) (rest : List ℕ) → length arities < 2 ^ 64 → n < 2 ^ 64 → LineFits arities n l → line_at arities n (line_text n l rest) ≡ Ok (l, rest)

-- the same of the first line
pub record HeadersAreRead : Type 0 where
  pub found : (bytes rest : List ℕ) → header_at bytes ≡ Ok rest → bytes ≡ header_text rest
  pub again : (rest : List ℕ) → header_at (header_text rest) ≡ Ok rest

-- the same of the line of arities
pub record AritiesAreSpelled (bytes arities rest : List ℕ) : Type 0 where
  pub fits : AritiesFit arities
  pub spelled : bytes ≡ arities_text arities rest

pub record AritiesAreRead : Type 0 where
  pub found : (bytes arities rest : List ℕ) → arities_at bytes ≡ Ok (arities, rest) → AritiesAreSpelled bytes arities rest
  pub again : (arities rest : List ℕ) → AritiesFit arities → arities_at (arities_text arities rest) ≡ Ok (arities, rest)

-- the same of the line of a predicate
pub record PredIsSpelled (arities : List ℕ) (names : List (List ℕ)) (bytes : List ℕ) (q : Pred) (rest : List ℕ) : Type 0 where
  pub fits : PredFits arities names q
  pub spelled : bytes ≡ pred_text q rest

pub record PredsAreRead : Type 0 where
  pub found : (arities : List ℕ) (names : List (List ℕ)) (n : ℕ) (bytes : List ℕ) (q : Pred) (rest : List ℕ) → HasArity arities (length names) n → pred_at arities names n bytes ≡ Ok (q, rest) → PredIsSpelled arities names bytes q rest
  pub again : (arities : List ℕ) (names : List (List ℕ)) (q : Pred) (rest : List ℕ) → AritiesFit arities → PredFits arities names q → pred_at arities names q.arity (pred_text q rest) ≡ Ok (q, rest)

-- ---- what fits is scoped

-- a formula is in its range over a table's arities exactly where it is scoped in the table and its integers have 64 bits
pub record RangesAreScopes : Type 0 where
  pub scoped : (preds : Preds) (k : ℕ) (f : Formula) → InRange (arities_of preds.list) k f → Scoped preds k f
  pub integers : (preds : Preds) (k : ℕ) (f : Formula) → InRange (arities_of preds.list) k f → FormulaIsI64 f
  pub in_range : (preds : Preds) (k : ℕ) (f : Formula) → Scoped preds k f → FormulaIsI64 f → InRange (arities_of preds.list) k f

-- ---- names of rules

-- a rule's name stands in the place of its number
pub record NamesAreNumbered : Type 0 where
  pub rule : (r : Rule) → slice_get printed_names (rule_number r - 1) ≡ Some (rule_name r)
  pub qed : slice_get printed_names 67 ≡ Some (codes "qed")
