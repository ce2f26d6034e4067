-- Parts of texts: what may follow one, that it is read there, and that what is read there is derived.
use Rattle.std.specs.Prelude.{◌≡◌, ◌⊎◌, ℕ, ◌≤◌, false, List, ◌++◌, None, Ok}
use Rattle.pm_logic.specs.declared.formula.Term.{Term}
use Rattle.pm_logic.specs.declared.formula.Pure.{Pure}
use Rattle.pm_logic.specs.declared.formula.Formula.{Formula}
use Rattle.pm_tokens.specs.declared.symbol.Symbol.TheVariants as s
use Rattle.pm_tokens.specs.Tokens.{Token, Place}
use Rattle.pm_terms.specs.declared.level.PureLevel.{PureLevel}
use Rattle.pm_terms.specs.declared.level.PureLevel.TheVariants as pure_level
use Rattle.pm_text.specs.declared.level.Level.{Level}
use Rattle.pm_text.specs.declared.level.Level.TheVariants as level
use Rattle.pm_terms.specs.Scope.{Names, Callables}
use Rattle.pm_terms.specs.Steps.{Read, sees}
use Rattle.pm_terms.specs.TermReading.{operand_in, sum_in}
use Rattle.pm_terms.specs.PureReading.{next_comparison, pure_in}
use Rattle.pm_text.specs.FormulaReading.{next_infix, formula_in}
use Rattle.pm_grammar.specs.TermGrammar.{IsTerm, sum, operand}
use Rattle.pm_grammar.specs.PureGrammar.{IsPure}
use Rattle.pm_grammar.specs.FormulaGrammar.{End, closed, body, IsFormula}
use Rattle.pm_grammar.specs.Openings.{openings}
use Rattle.pm_grammar.specs.ReadingLaws.{tokens_at, IsDeep}

-- ---- what may follow

-- no term goes on with it
pub record TermEnds (rest : List Place) : Type 0 where
  pub no_plus : sees s.Plus rest ≡ false
  pub no_minus : sees s.Minus rest ≡ false
  pub no_times : sees s.Asterisk rest ≡ false

abbrev pub NoPureInfix : PureLevel → List Place → Type 0
NoPureInfix pure_level.Ors rest = (sees s.And rest ≡ false) × (sees s.Or rest ≡ false)
NoPureInfix pure_level.Ands rest = sees s.And rest ≡ false
NoPureInfix pure_level.Literals rest = Unit {0}

-- no pure formula of this level goes on with it
pub record PureEnds (l : PureLevel) (rest : List Place) : Type 0 where
  pub no_term : TermEnds rest
  pub no_comparison : next_comparison rest ≡ None
  pub no_infix : NoPureInfix l rest

-- no infix of this level or a tighter one
abbrev pub NoInfix : Level → List Place → Type 0
NoInfix level.Prefixes rest = Unit {0}
NoInfix level.Stars rest = next_infix level.Stars rest ≡ None
NoInfix level.Ors rest = (next_infix level.Stars rest ≡ None) × (next_infix level.Ors rest ≡ None)
NoInfix l rest = (next_infix level.Stars rest ≡ None) × (next_infix level.Ors rest ≡ None) × (next_infix level.Wands rest ≡ None)

-- no formula of this level goes on with it
pub record FormulaEnds (l : Level) (rest : List Place) : Type 0 where
  pub no_location : sees s.PointsTo rest ≡ false
  pub no_infix : NoInfix l rest

-- the level up to which no infix follows: a body takes all
abbrev pub reach : End → Level → Level
reach closed l = l
reach body l = level.Wands

-- ---- What the grammar derives is read, or it is too deep.

-- The value and the tokens that are left, unless the tokens of the part can open as many constructs as there is room for.
abbrev pub IsReadAs : {A : Type 0} → (room : ℕ) → List Token → Read A → A × List Place → Type 0
IsReadAs room xs read x = (read ≡ Ok x) ⊎ (IsDeep read × (room ≤ openings xs))

pub record PartsAreRead : Type 0 where
  pub terms : (stop room : ℕ) (names : Names) (ts rest : List Place) (a : Term) → IsTerm names sum (tokens_at ts) a → TermEnds rest → IsReadAs room (tokens_at ts) (sum_in stop names room (ts ++ rest)) (a, rest)
  pub operands : (stop room : ℕ) (names : Names) (ts rest : List Place) (a : Term) → IsTerm names operand (tokens_at ts) a → IsReadAs room (tokens_at ts) (operand_in stop names room (ts ++ rest)) (a, rest)
  pub pures : (stop room : ℕ) (names : Names) (l : PureLevel) (ts rest : List Place) (p : Pure) → IsPure names l (tokens_at ts) p → PureEnds l rest → IsReadAs room (tokens_at ts) (pure_in stop names room l (ts ++ rest)) (p, rest)
  pub formulas : (stop room : ℕ) (preds : Callables) (names : Names) (l : Level) (e : End) (ts rest : List Place) (f : Formula) → IsFormula preds names l e (tokens_at ts) f → FormulaEnds (reach e l) rest
      → IsReadAs room (tokens_at ts) (formula_in stop preds room l names (ts ++ rest)) (f, rest)

-- ---- What is read is derived, from the tokens before those that are left.

abbrev pub IsBefore : (List Token → Type 0) → (ts rest : List Place) → Type 0
IsBefore P ts rest = (xs : List Token) × (tokens_at ts ≡ xs ++ tokens_at rest) × P xs

pub record PartsAreDerived : Type 0 where
  pub terms : (stop room : ℕ) (names : Names) (ts rest : List Place) (a : Term) → sum_in stop names room ts ≡ Ok (a, rest) → IsBefore (λ xs. IsTerm names sum xs a) ts rest
  pub operands : (stop room : ℕ) (names : Names) (ts rest : List Place) (a : Term) → operand_in stop names room ts ≡ Ok (a, rest) → IsBefore (λ xs. IsTerm names operand xs a) ts rest
  pub pures : (stop room : ℕ) (names : Names) (l : PureLevel) (ts rest : List Place) (p : Pure) → pure_in stop names room l ts ≡ Ok (p, rest) → IsBefore (λ xs. IsPure names l xs p) ts rest
  pub formulas : (stop room : ℕ) (preds : Callables) (names : Names) (ts rest : List Place) (f : Formula) → formula_in stop preds room level.Wands names ts ≡ Ok (f, rest)
      → (e : End) × IsBefore (λ xs. IsFormula preds names level.Wands e xs f) ts rest × NoInfix level.Wands rest
