-- The grammar of pure formulas: the tokens that one is written with, one constructor a production.
use Rattle.std.specs.Prelude.{◌≡◌, List, [], ◌∷◌, ◌++◌, Some}
use Rattle.pm_logic.specs.declared.formula.Term.{Term}
use Rattle.pm_logic.specs.declared.formula.Pure.{Pure}
use Rattle.pm_logic.specs.declared.formula.Pure.TheVariants.{True, False}
use Rattle.pm_logic.specs.declared.formula.Pure.TheViews as pure
use Rattle.pm_tokens.specs.declared.symbol.Symbol.{Symbol}
use Rattle.pm_tokens.specs.declared.symbol.Symbol.TheVariants as s
use Rattle.pm_tokens.specs.Tokens.{Token, symbol}
use Rattle.pm_terms.specs.declared.level.Comparison.{Comparison}
use Rattle.pm_terms.specs.declared.level.PureLevel.{PureLevel}
use Rattle.pm_terms.specs.declared.level.PureLevel.TheVariants.{Ors, Ands, Literals}
use Rattle.pm_terms.specs.Scope.{Names}
use Rattle.pm_terms.specs.PureReading.{comparison_of, compared}
use Rattle.pm_grammar.specs.TermGrammar.{IsTerm, sum}

pub data IsPure (names : Names) : PureLevel → List Token → Pure → Type 0 where
  of_ands : {xs : List Token} {p : Pure} → IsPure names Ands xs p → IsPure names Ors xs p
  disjunction : {xs ys : List Token} {p q : Pure} → IsPure names Ands xs p → IsPure names Ors ys q → IsPure names Ors (xs ++ symbol s.Or ∷ ys) (pure.Or p q)
  of_literal : {xs : List Token} {p : Pure} → IsPure names Literals xs p → IsPure names Ands xs p
  conjunction : {xs ys : List Token} {p q : Pure} → IsPure names Literals xs p → IsPure names Ands ys q → IsPure names Ands (xs ++ symbol s.And ∷ ys) (pure.And p q)
  negation : {xs : List Token} {p : Pure} → IsPure names Literals xs p → IsPure names Literals (symbol s.Not ∷ xs) (pure.Not p)
  truth : IsPure names Literals (symbol s.True ∷ []) True
  falsehood : IsPure names Literals (symbol s.False ∷ []) False
  group : {xs : List Token} {p : Pure} → IsPure names Ors xs p → IsPure names Literals (symbol s.Open ∷ (xs ++ symbol s.Close ∷ [])) p
  comparison : {xs ys : List Token} {a b : Term} (r : Symbol) {c : Comparison} → IsTerm names sum xs a → comparison_of r ≡ Some c → IsTerm names sum ys b → IsPure names Literals (xs ++ symbol r ∷ ys) (compared c a b)
