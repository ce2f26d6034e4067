-- What is read is what the grammar derives, unless it is too deep.
use Rattle.std.specs.Prelude.{◌≡◌, ◌⊎◌, ℕ, ◌≤◌, ◌<◌, List, [], ◌∷◌, Result, Ok, Err}
use Rattle.pm_logic.specs.declared.limits.TheConstants.{MAX_LEVELS}
use Rattle.pm_logic.specs.declared.formula.Term.{Term}
use Rattle.pm_logic.specs.declared.formula.Pure.{Pure}
use Rattle.pm_logic.specs.declared.formula.Formula.{Formula}
use Rattle.pm_logic.specs.Size.{term_depth, pure_depth, depth_of}
use Rattle.pm_tokens.specs.Tokens.{Token, Place, place}
use Rattle.pm_terms.specs.declared.fault.TextFault.{TextFault}
use Rattle.pm_terms.specs.declared.fault.TextFault.TheVariants.{Deep}
use Rattle.pm_terms.specs.declared.level.PureLevel.TheVariants.{Ors}
use Rattle.pm_text.specs.declared.level.Level.TheVariants.{Wands}
use Rattle.pm_terms.specs.Scope.{Names, Callables}
use Rattle.pm_text.specs.FormulaReading.{formula_of, pure_of, term_of}
use Rattle.pm_grammar.specs.TermGrammar.{IsTerm, sum}
use Rattle.pm_grammar.specs.PureGrammar.{IsPure}
use Rattle.pm_grammar.specs.FormulaGrammar.{End, IsFormula}
use Rattle.pm_grammar.specs.Openings.{openings}

-- tokens without their offsets
abbrev pub tokens_at : List Place → List Token
tokens_at [] = []
tokens_at (place t at ∷ ts) = t ∷ tokens_at ts

abbrev pub IsDeep : {A : Type 0} → Result A TextFault → Type 0
IsDeep read = (at : ℕ) × (read ≡ Err (Deep at))

-- ---- What is read is written by the grammar.

pub record ReadingIsSound : Type 0 where
  pub terms : (names : Names) (end stop : ℕ) (ts : List Place) (a : Term) → term_of names end stop ts ≡ Ok a → IsTerm names sum (tokens_at ts) a
  pub pures : (names : Names) (end stop : ℕ) (ts : List Place) (p : Pure) → pure_of names end stop ts ≡ Ok p → IsPure names Ors (tokens_at ts) p
  pub formulas : (preds : Callables) (names : Names) (end stop : ℕ) (ts : List Place) (f : Formula) → formula_of preds names end stop ts ≡ Ok f → (e : End) × IsFormula preds names Wands e (tokens_at ts) f

-- ---- What the grammar writes is read, wherever its tokens stand, or it is too deep.

pub record ReadingIsComplete : Type 0 where
  pub terms : (names : Names) (end : ℕ) (ts : List Place) (a : Term) → IsTerm names sum (tokens_at ts) a → (term_of names end end ts ≡ Ok a) ⊎ IsDeep (term_of names end end ts)
  pub pures : (names : Names) (end : ℕ) (ts : List Place) (p : Pure) → IsPure names Ors (tokens_at ts) p → (pure_of names end end ts ≡ Ok p) ⊎ IsDeep (pure_of names end end ts)
  pub formulas : (preds : Callables) (names : Names) (end : ℕ) (ts : List Place) (e : End) (f : Formula) → IsFormula preds names Wands e (tokens_at ts) f → (formula_of preds names end end ts ≡ Ok f) ⊎ IsDeep (formula_of preds names end end ts)

-- ---- It isn't too deep where it can open fewer than MAX_LEVELS constructs and its tree has no more than MAX_LEVELS levels.

pub record ShallowIsRead : Type 0 where
  pub terms : (names : Names) (end : ℕ) (ts : List Place) (a : Term) → IsTerm names sum (tokens_at ts) a → openings (tokens_at ts) < MAX_LEVELS → term_depth a ≤ MAX_LEVELS → term_of names end end ts ≡ Ok a
  pub pures : (names : Names) (end : ℕ) (ts : List Place) (p : Pure) → IsPure names Ors (tokens_at ts) p → openings (tokens_at ts) < MAX_LEVELS → pure_depth p ≤ MAX_LEVELS → pure_of names end end ts ≡ Ok p
  pub formulas : (preds : Callables) (names : Names) (end : ℕ) (ts : List Place) (e : End) (f : Formula) → IsFormula preds names Wands e (tokens_at ts) f → openings (tokens_at ts) < MAX_LEVELS → depth_of f ≤ MAX_LEVELS → formula_of preds names end end ts ≡ Ok f

-- ---- Tokens are written for one tree alone.

pub record GrammarIsUnambiguous : Type 0 where
  pub terms : (names : Names) (xs : List Token) (a b : Term) → IsTerm names sum xs a → IsTerm names sum xs b → a ≡ b
  pub pures : (names : Names) (xs : List Token) (p q : Pure) → IsPure names Ors xs p → IsPure names Ors xs q → p ≡ q
  pub formulas : (preds : Callables) (names : Names) (xs : List Token) (d e : End) (f g : Formula) → IsFormula preds names Wands d xs f → IsFormula preds names Wands e xs g → f ≡ g
