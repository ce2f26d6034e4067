-- What is written for a derivation that is accepted.
use Rattle.std.specs.Prelude.{ℕ, ◌≤◌, List, [], ◌∷◌, ◌++◌, length, codes, All}
use Rattle.std.specs.List.{flat_map}
use Rattle.std.specs.Fmt.{decimal}
use Rattle.pm_logic.specs.declared.formula.Pred.{Pred}
use Rattle.pm_logic.specs.declared.formula.Preds.{Preds}
use Rattle.pm_logic.specs.declared.formula.TheConstants.{BOUND}
use Rattle.pm_logic.specs.Size.{depth_of}
use Rattle.pm_check.specs.declared.checked.Statement.{Statement}
use Rattle.pm_print.specs.Lines.{predicate_line, lemma_line}

abbrev pub line_feed : List ℕ
line_feed = 10 ∷ []

abbrev pub accepted_line : ℕ → List ℕ
accepted_line n = codes "accepted: " ++ (decimal n ++ (codes " statements" ++ line_feed))

-- the line of each predicate of a table
abbrev pub predicate_lines : List Pred → List ℕ
predicate_lines preds = flat_map (predicate_line preds) preds

-- the line of each statement over a table
abbrev pub statement_lines : List Pred → List Statement → List ℕ
statement_lines preds statements = flat_map (λ s. lemma_line preds s.name s.formula) statements

-- the table, the statements, and how many statements there are
abbrev pub accepted_text : Preds → List Statement → List ℕ
accepted_text preds statements = predicate_lines preds.list ++ (statement_lines preds.list statements ++ accepted_line (length statements))

-- ---- what can be printed

abbrev pub IsShallowPredicate : Pred → Type 0
IsShallowPredicate q = depth_of q.body ≤ BOUND

abbrev pub IsShallowStatement : Statement → Type 0
IsShallowStatement s = depth_of s.formula ≤ BOUND

pub record AreShallow (preds : Preds) (statements : List Statement) : Type 0 where
  pub bodies : All IsShallowPredicate preds.list
  pub formulas : All IsShallowStatement statements
