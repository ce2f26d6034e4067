-- The grammar of terms: the tokens that a term is written with, one constructor a production.
use Rattle.std.specs.Prelude.{◌≡◌, ℕ, ℤ, pos, neg_ℤ, ◌<◌, ◌≤◌, ◌^◌, Bool, true, false, List, [], ◌∷◌, ◌++◌, Some}
use Rattle.pm_logic.specs.declared.formula.Term.{Term}
use Rattle.pm_logic.specs.declared.formula.Term.TheVariants.{Lit, Var}
use Rattle.pm_logic.specs.declared.formula.Term.TheViews as term
use Rattle.pm_tokens.specs.declared.symbol.Symbol.TheVariants as s
use Rattle.pm_tokens.specs.Tokens.{Token, name, number, symbol}
use Rattle.pm_terms.specs.Scope.{Names, variable_of}

-- a number with a minus or without, within 64 bits
pub data IsLiteral : List Token → ℤ → Type 0 where
  positive : {n : ℕ} → n < 2 ^ 63 → IsLiteral (number n ∷ []) (pos n)
  negative : {n : ℕ} → n ≤ 2 ^ 63 → IsLiteral (symbol s.Minus ∷ number n ∷ []) (neg_ℤ (pos n))

abbrev pub begins_with_number : List Token → Bool
begins_with_number [] = false
begins_with_number (name x ∷ xs) = false
begins_with_number (number n ∷ xs) = true
begins_with_number (symbol r ∷ xs) = false

pub data Sort : Type 0 where
  sum : Sort
  product : Sort
  operand : Sort

pub data IsTerm (names : Names) : Sort → List Token → Term → Type 0 where
  of_product : {xs : List Token} {a : Term} → IsTerm names product xs a → IsTerm names sum xs a
  plus : {xs ys : List Token} {a b : Term} → IsTerm names sum xs a → IsTerm names product ys b → IsTerm names sum (xs ++ symbol s.Plus ∷ ys) (term.Add a b)
  minus : {xs ys : List Token} {a b : Term} → IsTerm names sum xs a → IsTerm names product ys b → IsTerm names sum (xs ++ symbol s.Minus ∷ ys) (term.Sub a b)
  scale : {xs ys : List Token} {z : ℤ} {a : Term} → IsLiteral xs z → IsTerm names product ys a → IsTerm names product (xs ++ symbol s.Asterisk ∷ ys) (term.Scale z a)
  -- a minus before a number is the number's
  negation : {xs : List Token} {a : Term} → begins_with_number xs ≡ false → IsTerm names product xs a → IsTerm names product (symbol s.Minus ∷ xs) (term.Neg a)
  of_operand : {xs : List Token} {a : Term} → IsTerm names operand xs a → IsTerm names product xs a
  variable : {x : List ℕ} {i : ℕ} → variable_of names x ≡ Some i → IsTerm names operand (name x ∷ []) (Var i)
  literal : {xs : List Token} {z : ℤ} → IsLiteral xs z → IsTerm names operand xs (Lit z)
  group : {xs : List Token} {a : Term} → IsTerm names sum xs a → IsTerm names operand (symbol s.Open ∷ (xs ++ symbol s.Close ∷ [])) a
