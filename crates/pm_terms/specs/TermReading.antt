-- Reading of terms.
--   sum      ::=  product  |  sum + product  |  sum - product
--   product  ::=  n * product  |  - n * product  |  - n  |  - product  |  operand
--   operand  ::=  x  |  n  |  - n  |  ( sum )
use Rattle.std.specs.Prelude.{ℕ, zero, suc, Bool, ◌&&◌, ◌||◌, not, if◌then◌else◌, List, [], ◌∷◌, ◌++◌, drop, Result, Ok, Err}
use Rattle.pm_logic.specs.declared.formula.Term.{Term}
use Rattle.pm_logic.specs.declared.formula.Term.TheVariants.{Lit, Var}
use Rattle.pm_logic.specs.declared.formula.Term.TheViews as term
use Rattle.pm_tokens.specs.declared.symbol.Symbol.TheVariants as s
use Rattle.pm_tokens.specs.Tokens.{name, number, symbol, Place, place}
use Rattle.pm_terms.specs.declared.fault.TextFault.{TextFault}
use Rattle.pm_terms.specs.declared.fault.TextFault.TheVariants.{Unexpected, Deep}
use Rattle.pm_terms.specs.declared.level.Sign.{Sign}
use Rattle.pm_terms.specs.declared.level.Sign.TheVariants as sign
use Rattle.pm_terms.specs.declared.level.Before.{Before}
use Rattle.pm_terms.specs.declared.level.Before.TheVariants as before
use Rattle.pm_terms.specs.Scope.{Names, variable_of}
use Rattle.pm_terms.specs.Steps.{Read, ◌>>=◌, made, fault_or, sees, sees_number, closed_by, positive, literal, bound_at}

-- the operand behind its signs, the outermost first
unfoldable pub signed : List Sign → Term → Term
signed [] a = a
signed (sign.Times z ∷ signs) a = term.Scale z (signed signs a)
signed (sign.Minus ∷ signs) a = term.Neg (signed signs a)

-- the product behind what stands before it in its sum
unfoldable pub added : Before → Term → Term
added before.Nothing a = a
added (before.Plus b) a = term.Add b a
added (before.Minus b) a = term.Sub b a

-- a number, or a minus and a number
unfoldable pub begins_literal : List Place → Bool
begins_literal ts = sees_number ts || (sees s.Minus ts && sees_number (drop 1 ts))

abbrev pub after_literal : List Place → List Place
after_literal ts = if sees s.Minus ts then drop 2 ts else drop 1 ts

-- a literal before an asterisk
unfoldable pub begins_scale : List Place → Bool
begins_scale ts = begins_literal ts && sees s.Asterisk (after_literal ts)

-- a minus before anything but a number
unfoldable pub begins_negation : List Place → Bool
begins_negation ts = sees s.Minus ts && not (sees_number (drop 1 ts))

-- what reads the rest of a sum, behind what stands before it and the signs of the operand that comes
abbrev pub Terms : Type 0
Terms = Before → List Sign → List Place → Read Term

module _ (stop : ℕ) (names : Names) where
  -- the variable of the name at this offset
  unfoldable pub variable_at : List ℕ → ℕ → Result ℕ TextFault
  variable_at x at = bound_at at (variable_of names x)

  -- the fault at an operand before which as many constructs are open as may be
  unfoldable pub deep_term : List Place → TextFault
  deep_term [] = Unexpected stop
  deep_term (place (name x) at ∷ ts) = fault_or (Deep at) (variable_at x at)
  deep_term (place (number n) at ∷ ts) = fault_or (Deep at) (positive n at)
  deep_term (place (symbol s.Open) at ∷ ts) = Deep at
  deep_term (place (symbol s.Minus) at ∷ ts) = Deep at
  deep_term (place (symbol r) at ∷ ts) = Unexpected at

  -- ---- one level, where self reads inside one construct more

  unfoldable pub operand_at : Terms → List Place → Read Term
  operand_at self [] = Err (Unexpected stop)
  operand_at self (place (name x) at ∷ ts) = variable_at x at >>= λ i. Ok (Var i, ts)
  operand_at self (place (number n) at ∷ ts) = positive n at >>= λ z. Ok (Lit z, ts)
  operand_at self (place (symbol s.Open) at ∷ ts) = closed_by s.Close stop (self before.Nothing [] ts)
  operand_at self (place (symbol r) at ∷ ts) = made Lit (literal stop (place (symbol r) at ∷ ts))

  -- behind the products that are read
  unfoldable pub sum_at : Terms → Term → List Place → Read Term
  sum_at self a ts =
      if sees s.Plus ts then self (before.Plus a) [] (drop 1 ts)
      else if sees s.Minus ts then self (before.Minus a) [] (drop 1 ts)
      else Ok (a, ts)

  unfoldable pub term_at : Terms → Terms
  term_at self left signs ts =
      if begins_scale ts then (literal stop ts >>= λ z. self left (signs ++ sign.Times z.0 ∷ []) (drop 1 z.1))
      else if begins_negation ts then self left (signs ++ sign.Minus ∷ []) (drop 1 ts)
      else (operand_at self ts >>= λ a. sum_at self (added left (signed signs a.0)) a.1)

  -- ---- where so many constructs may still be opened

  unfoldable pub term_in : ℕ → Terms
  term_in zero left signs ts = Err (deep_term ts)
  term_in (suc room) left signs ts = term_at (term_in room) left signs ts

  unfoldable pub operand_in : ℕ → List Place → Read Term
  operand_in zero ts = Err (deep_term ts)
  operand_in (suc room) ts = operand_at (term_in room) ts

  unfoldable pub sum_in : ℕ → List Place → Read Term
  sum_in room ts = term_in room before.Nothing [] ts
