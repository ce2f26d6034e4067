-- What holds of reading and printing together.
use Rattle.std.specs.Prelude.{◌≡◌, ◌≢◌, ◌⊎◌, ℕ, ◌+◌, ◌<◌, ◌≤◌, ◌^◌, List, [], length, get_or, IsTrue, Result, Ok}
use Rattle.pm_logic.specs.declared.limits.TheConstants.{MAX_LEVELS}
use Rattle.pm_logic.specs.declared.formula.Term.{Term}
use Rattle.pm_logic.specs.declared.formula.Pure.{Pure}
use Rattle.pm_logic.specs.declared.formula.Formula.{Formula}
use Rattle.pm_logic.specs.declared.formula.Pred.{Pred}
use Rattle.pm_logic.specs.Size.{term_depth, pure_depth, depth_of}
use Rattle.pm_names.specs.Names.{is_name}
use Rattle.pm_tokens.specs.Texts.{tokens}
use Rattle.pm_terms.specs.declared.fault.TextFault.{TextFault}
use Rattle.pm_terms.specs.declared.level.PureLevel.TheVariants.{Ors}
use Rattle.pm_terms.specs.Scope.{callables}
use Rattle.pm_text.specs.declared.level.Level.TheVariants.{Wands}
use Rattle.pm_text.specs.TextReading.{read_term, read_pure, read_formula}
use Rattle.pm_grammar.specs.TermGrammar.{IsTerm, sum}
use Rattle.pm_grammar.specs.PureGrammar.{IsPure}
use Rattle.pm_grammar.specs.FormulaGrammar.{End, IsFormula}
use Rattle.pm_grammar.specs.Openings.{openings}
use Rattle.pm_grammar.specs.ReadingLaws.{tokens_at, IsDeep}
use Rattle.pm_dtext.specs.Ranges.{TermInRange, PureInRange, InRange}
use Rattle.pm_dtext.specs.Texts.{arities_of}
use Rattle.pm_print.specs.Printing.{Names, Piece, binder_name, names_of, term_pieces, pure_pieces, formula_pieces, text_of, tokens_of, term_text, pure_text, formula_text}

-- ---- What is printed is written by the grammar.

-- names that are found again: each is a name, and no two are one
pub record AreNames (names : Names) : Type 0 where
  pub each : (i : ℕ) → i < length names → IsTrue (is_name (get_or names i []))
  pub differ : (i j : ℕ) → i < length names → j < length names → i ≢ j → get_or names i [] ≢ get_or names j []

-- besides, none of them is the name of a binder further in
pub record AreVariables (names : Names) : Type 0 where
  pub found : AreNames names
  pub free : (i k : ℕ) → i < length names → length names ≤ k → get_or names i [] ≢ binder_name k

-- A formula over these predicates and variables, in range. The numbers of its binders have at most 64 bits.
pub record IsPrintable (preds : List Pred) (names : Names) (f : Formula) : Type 0 where
  pub variables : AreVariables names
  pub predicates : AreNames (names_of preds)
  pub in_range : InRange (arities_of preds) (length names) f
  pub levels : length names + depth_of f < 2 ^ 64

pub record PrintingIsDerived : Type 0 where
  pub terms : (names : Names) (a : Term) → AreNames names → TermInRange (length names) a → IsTerm names sum (tokens_of (term_pieces 0 names a)) a
  pub pures : (names : Names) (p : Pure) → AreNames names → PureInRange (length names) p → IsPure names Ors (tokens_of (pure_pieces 0 names p)) p
  pub formulas : (preds : List Pred) (names : Names) (f : Formula) → IsPrintable preds names f → (e : End) × IsFormula (callables 0 preds) names Wands e (tokens_of (formula_pieces preds 0 names f)) f

-- ---- The tokens of a printed text are those that were printed, up to its end.

pub record IsLexed (ps : List Piece) : Type 0 where
  pub same : tokens_at (tokens (text_of ps)).0 ≡ tokens_of ps
  pub end : (tokens (text_of ps)).1 ≡ length (text_of ps)

pub record PrintingIsLexed : Type 0 where
  pub terms : (names : Names) (a : Term) → AreNames names → TermInRange (length names) a → IsLexed (term_pieces 0 names a)
  pub pures : (names : Names) (p : Pure) → AreNames names → PureInRange (length names) p → IsLexed (pure_pieces 0 names p)
  pub formulas : (preds : List Pred) (names : Names) (f : Formula) → IsPrintable preds names f → IsLexed (formula_pieces preds 0 names f)

-- ---- What is printed is read again, or it is too deep.

abbrev pub IsReadAgain : {A : Type 0} → A → Result A TextFault → Type 0
IsReadAgain x read = (read ≡ Ok x) ⊎ IsDeep read

pub record PrintedIsRead : Type 0 where
  pub terms : (base : ℕ) (names : Names) (a : Term) → AreNames names → TermInRange (length names) a → IsReadAgain a (read_term base names (term_text names a))
  pub pures : (base : ℕ) (names : Names) (p : Pure) → AreNames names → PureInRange (length names) p → IsReadAgain p (read_pure base names (pure_text names p))
  pub formulas : (base : ℕ) (preds : List Pred) (names : Names) (f : Formula) → IsPrintable preds names f → IsReadAgain f (read_formula base preds names (formula_text preds names f))

-- It isn't too deep where its tokens open fewer than MAX_LEVELS constructs and its tree has no more than MAX_LEVELS levels.
pub record ShallowPrintedIsRead : Type 0 where
  pub terms : (base : ℕ) (names : Names) (a : Term) → AreNames names → TermInRange (length names) a → openings (tokens_of (term_pieces 0 names a)) < MAX_LEVELS → term_depth a ≤ MAX_LEVELS → read_term base names (term_text names a) ≡ Ok a
  pub pures : (base : ℕ) (names : Names) (p : Pure) → AreNames names → PureInRange (length names) p → openings (tokens_of (pure_pieces 0 names p)) < MAX_LEVELS → pure_depth p ≤ MAX_LEVELS → read_pure base names (pure_text names p) ≡ Ok p
  pub formulas : (base : ℕ) (preds : List Pred) (names : Names) (f : Formula) → IsPrintable preds names f → openings (tokens_of (formula_pieces preds 0 names f)) < MAX_LEVELS → depth_of f ≤ MAX_LEVELS → read_formula base preds names (formula_text preds names f) ≡ Ok f
