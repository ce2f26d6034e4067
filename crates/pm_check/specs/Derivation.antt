-- Which texts are derivations, and what they state.
use Rattle.std.specs.Prelude.{◌≡◌, ℕ, suc, List, [], ◌∷◌, length}
use Rattle.pm_logic.specs.declared.formula.Preds.{Preds}
use Rattle.pm_dtext.specs.declared.line.Line.{Line}
use Rattle.pm_dtext.specs.declared.line.Line.TheVariants.{Step, Qed}
use Rattle.pm_dtext.specs.Spelling.{line_text}
use Rattle.pm_dtext.specs.Ranges.{LineFits}
use Rattle.pm_dtext.specs.Texts.{arities_of}
use Rattle.pm_check.specs.declared.checked.Statement.{Statement}
use Rattle.pm_check.specs.Fronts.{EachBehind}
use Rattle.pm_check.specs.Table.{table_text, BeginsTable}
use Rattle.pm_check.specs.Lines.{steps, names, statements_behind, LineFollows}

-- the number of the next proof line behind lines
abbrev pub next_number : List Line → ℕ
next_number ls = suc (length (steps ls))

-- the text of lines, where n is the number of the next proof line
abbrev pub lines_text : ℕ → List Line → List ℕ → List ℕ
lines_text n [] rest = rest
lines_text n (Step rule first second e ∷ ls) rest = line_text n (Step rule first second e) (lines_text (suc n) ls rest)
lines_text n (Qed name cited ∷ ls) rest = line_text n (Qed name cited) (lines_text n ls rest)

-- the text of a table and of lines, with this rest behind them
abbrev pub derivation_text : Preds → List Line → List ℕ → List ℕ
derivation_text preds ls rest = table_text (arities_of preds.list) preds.list (lines_text 1 ls rest)

-- a line is in its ranges behind these lines, and follows from them
pub record IsNext (preds : Preds) (before : List Line) (l : Line) : Type 0 where
  pub fits : LineFits (arities_of preds.list) (next_number before) l
  pub follows : LineFollows preds (steps before) (names before) l

-- the bytes begin with a table and lines, each of which follows from the lines before it, and go on with this rest
pub record Begins (bytes : List ℕ) (preds : Preds) (ls : List Line) (rest : List ℕ) : Type 0 where
  pub text : bytes ≡ derivation_text preds ls rest
  pub table : BeginsTable (arities_of preds.list) preds.list
  pub each : EachBehind (IsNext preds) ls

-- the bytes are a derivation with this table and these statements
pub record IsDerivation (bytes : List ℕ) (preds : Preds) (statements : List Statement) : Type 0 where
  pub lines : List Line
  pub whole : Begins bytes preds lines []
  pub states : statements ≡ statements_behind [] lines
