-- Reading of pure formulas.
--   or       ::=  and  |  and ∨ or
--   and      ::=  literal  |  literal ∧ and
--   literal  ::=  ¬ literal  |  True  |  False  |  ( or )  |  sum cmp sum          cmp: = ≤ < ≠ ≥ >
use Rattle.std.specs.Prelude.{ℕ, zero, suc, Bool, false, ◌||◌, if◌then◌else◌, List, [], ◌∷◌, drop, Option, Some, None, is_some, Ok, Err}
use Rattle.pm_logic.specs.declared.formula.Term.{Term}
use Rattle.pm_logic.specs.declared.formula.Pure.{Pure}
use Rattle.pm_logic.specs.declared.formula.Pure.TheVariants.{True, False, Eq, Le, Lt}
use Rattle.pm_logic.specs.declared.formula.Pure.TheViews as pure
use Rattle.pm_tokens.specs.declared.symbol.Symbol.{Symbol}
use Rattle.pm_tokens.specs.declared.symbol.Symbol.TheVariants as s
use Rattle.pm_tokens.specs.Tokens.{name, number, symbol, Place, place}
use Rattle.pm_terms.specs.declared.fault.TextFault.{TextFault}
use Rattle.pm_terms.specs.declared.fault.TextFault.TheVariants.{Deep}
use Rattle.pm_terms.specs.declared.level.Comparison.{Comparison}
use Rattle.pm_terms.specs.declared.level.Comparison.TheVariants as cmp
use Rattle.pm_terms.specs.declared.level.PureLevel.{PureLevel}
use Rattle.pm_terms.specs.declared.level.PureLevel.TheVariants.{Ors, Ands, Literals}
use Rattle.pm_terms.specs.Scope.{Names}
use Rattle.pm_terms.specs.Steps.{Read, ◌>>=◌, made, sees, unexpected, closed_by, after_group}
use Rattle.pm_terms.specs.TermReading.{deep_term, sum_in}

-- ---- comparisons

unfoldable pub comparison_of : Symbol → Option Comparison
comparison_of s.Equals = Some cmp.Equal
comparison_of s.AtMost = Some cmp.AtMost
comparison_of s.Less = Some cmp.Below
comparison_of s.NotEqual = Some cmp.Differs
comparison_of s.AtLeast = Some cmp.AtLeast
comparison_of s.Greater = Some cmp.Above
comparison_of r = None

unfoldable pub compared : Comparison → Term → Term → Pure
compared cmp.Equal a b = Eq a b
compared cmp.AtMost a b = Le a b
compared cmp.Below a b = Lt a b
compared cmp.Differs a b = pure.Not (Eq a b)
compared cmp.AtLeast a b = Le b a
compared cmp.Above a b = Lt b a

unfoldable pub next_comparison : List Place → Option Comparison
next_comparison [] = None
next_comparison (place (name x) at ∷ ts) = None
next_comparison (place (number n) at ∷ ts) = None
next_comparison (place (symbol r) at ∷ ts) = comparison_of r

-- whether the parenthesis before these tokens begins a term
unfoldable pub begins_comparison : List Place → Bool
begins_comparison ts = let rest = after_group 0 ts in is_some (next_comparison rest) || sees s.Plus rest || sees s.Minus rest

-- ---- infixes

abbrev pub sees_infix : PureLevel → List Place → Bool
sees_infix Ors ts = sees s.Or ts
sees_infix Ands ts = sees s.And ts
sees_infix Literals ts = false

abbrev pub joined : PureLevel → Pure → Pure → Pure
joined Ors a b = pure.Or a b
joined Ands a b = pure.And a b
joined Literals a b = a

abbrev pub Pures : Type 0
Pures = PureLevel → List Place → Read Pure

module _ (stop : ℕ) (names : Names) where
  -- the fault at an operand before which as many constructs are open as may be
  unfoldable pub deep_pure : List Place → TextFault
  deep_pure (place (symbol s.Not) at ∷ ts) = Deep at
  deep_pure (place (symbol s.True) at ∷ ts) = Deep at
  deep_pure (place (symbol s.False) at ∷ ts) = Deep at
  deep_pure ts = deep_term stop names ts

  unfoldable pub comparison_sign : List Place → Read Comparison
  comparison_sign ts = sign_or (next_comparison ts)
    where
      sign_or : Option Comparison → Read Comparison
      sign_or (Some c) = Ok (c, drop 1 ts)
      sign_or None = Err (unexpected stop ts)

  -- ---- one level, where self reads inside one construct more, and room is how many may be opened there

  module _ (self : Pures) (room : ℕ) where
    unfoldable pub comparison_at : List Place → Read Pure
    comparison_at ts = do
      a ← sum_in stop names (suc room) ts
      c ← comparison_sign a.1
      b ← sum_in stop names room c.1
      Ok (compared c.0 a.0 b.0, b.1)

    unfoldable pub literal_at : List Place → Read Pure
    literal_at (place (symbol s.Not) at ∷ ts) = made pure.Not (self Literals ts)
    literal_at (place (symbol s.True) at ∷ ts) = Ok (True, ts)
    literal_at (place (symbol s.False) at ∷ ts) = Ok (False, ts)
    literal_at (place (symbol s.Open) at ∷ ts) =
        if begins_comparison ts then comparison_at (place (symbol s.Open) at ∷ ts) else closed_by s.Close stop (self Ors ts)
    literal_at ts = comparison_at ts

    -- behind the left operand of an infix of this level, if there is one
    unfoldable pub infix_at : PureLevel → Pure → List Place → Read Pure
    infix_at level a ts = if sees_infix level ts then made (joined level a) (self level (drop 1 ts)) else Ok (a, ts)

    unfoldable pub ands_at : List Place → Read Pure
    ands_at ts = literal_at ts >>= λ a. infix_at Ands a.0 a.1

    unfoldable pub ors_at : List Place → Read Pure
    ors_at ts = ands_at ts >>= λ a. infix_at Ors a.0 a.1

    unfoldable pub pure_at : PureLevel → List Place → Read Pure
    pure_at Ors ts = ors_at ts
    pure_at Ands ts = ands_at ts
    pure_at Literals ts = literal_at ts

  -- where so many constructs may still be opened
  unfoldable pub pure_in : ℕ → Pures
  pure_in zero level ts = Err (deep_pure ts)
  pure_in (suc room) level ts = pure_at (pure_in room) room level ts
