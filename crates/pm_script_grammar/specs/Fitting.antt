-- What is read is in range.
use Rattle.std.specs.Prelude.{◌≡◌, ℕ, ◌≤◌, IsTrue, List, [], ◌∷◌, ◌++◌, length, Ok}
use Rattle.std.specs.List.{AllByRecursion}
use Rattle.pm_logic.specs.declared.limits.TheConstants.{MAX_LEVELS}
use Rattle.pm_logic.specs.declared.formula.Term.{Term}
use Rattle.pm_logic.specs.declared.formula.Pure.{Pure}
use Rattle.pm_logic.specs.declared.formula.Formula.{Formula}
use Rattle.pm_logic.specs.declared.formula.Pred.{Pred}
use Rattle.pm_logic.specs.Size.{depth_of}
use Rattle.pm_names.specs.Names.{is_name}
use Rattle.pm_tokens.specs.Tokens.{Token}
use Rattle.pm_terms.specs.declared.level.PureLevel.{PureLevel}
use Rattle.pm_terms.specs.Scope.{Names, Callables, callables, callables_in}
use Rattle.pm_text.specs.declared.level.Level.{Level}
use Rattle.pm_grammar.specs.TermGrammar.{Sort, IsTerm}
use Rattle.pm_grammar.specs.PureGrammar.{IsPure}
use Rattle.pm_grammar.specs.FormulaGrammar.{End, IsFormula}
use Rattle.pm_dtext.specs.Ranges.{TermInRange, PureInRange, HasArity, InRange}
use Rattle.pm_dtext.specs.Texts.{arities_of}
use Rattle.pm_script.specs.declared.sentence.Sentence.TheVariants.{Lemma, Predicate}
use Rattle.pm_script.specs.SentenceReading.{read_sentence}

-- ---- what the grammar derives

-- each stands in a table of these arities
abbrev pub AreListed : List ℕ → Callables → Type 0
AreListed arities preds = AllByRecursion (λ p. HasArity arities p.index p.arity) preds

-- the arities in the body of a predicate with so many parameters, which may call itself
abbrev pub with_own : List Pred → ℕ → List ℕ
with_own preds arity = arities_of preds ++ arity ∷ []

pub record WhatIsDerivedFits : Type 0 where
  pub terms : (names : Names) (t : Sort) (xs : List Token) (a : Term) → IsTerm names t xs a → TermInRange (length names) a
  pub pures : (names : Names) (l : PureLevel) (xs : List Token) (p : Pure) → IsPure names l xs p → PureInRange (length names) p
  pub formulas : (arities : List ℕ) (preds : Callables) → AreListed arities preds → (names : Names) (l : Level) (e : End) (xs : List Token) (f : Formula) → IsFormula preds names l e xs f → InRange arities (length names) f
  -- such are the callables outside predicates and in the body of one
  pub table : (preds : List Pred) → AreListed (arities_of preds) (callables 0 preds)
  pub own : (name : List ℕ) (arity : ℕ) (preds : List Pred) → AreListed (with_own preds arity) (callables_in name arity preds)

-- ---- sentences that are read

-- the statement of a lemma
pub record StatementFits (preds : List Pred) (name : List ℕ) (f : Formula) : Type 0 where
  pub named : IsTrue (is_name name)
  pub in_range : InRange (arities_of preds) 0 f
  pub levels : depth_of f ≤ MAX_LEVELS

-- a predicate over those of the table
pub record DefinitionFits (preds : List Pred) (name : List ℕ) (params : Names) (body : Formula) : Type 0 where
  pub named : IsTrue (is_name name)
  pub in_range : InRange (with_own preds (length params)) (length params) body
  pub levels : depth_of body ≤ MAX_LEVELS

pub record WhatIsReadFits : Type 0 where
  pub lemmas : (base : ℕ) (preds : List Pred) (names : Names) (text name : List ℕ) (f : Formula) → read_sentence base preds names text ≡ Ok (Lemma name f) → StatementFits preds name f
  pub predicates : (base : ℕ) (preds : List Pred) (names : Names) (text name : List ℕ) (params : Names) (body : Formula) → read_sentence base preds names text ≡ Ok (Predicate name params body) → DefinitionFits preds name params body
