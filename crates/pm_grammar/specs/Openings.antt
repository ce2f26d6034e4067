-- How many constructs tokens can open.
use Rattle.std.specs.Prelude.{ℕ, ◌+◌, List, [], ◌∷◌}
use Rattle.pm_tokens.specs.declared.symbol.Symbol.{Symbol}
use Rattle.pm_tokens.specs.declared.symbol.Symbol.TheVariants as s
use Rattle.pm_tokens.specs.Tokens.{Token, name, number, symbol}

-- what opens a construct: parentheses, prefixes, infixes and comparisons, and a wand with an update two
abbrev pub opens : Symbol → ℕ
opens s.Open = 1
opens s.Forall = 1
opens s.Exists = 1
opens s.Star = 1
opens s.Asterisk = 1
opens s.Wand = 1
opens s.UpdateWand = 2
opens s.And = 1
opens s.Or = 1
opens s.Arrow = 1
opens s.Later = 1
opens s.Persistently = 1
opens s.PointsTo = 1
opens s.AtMost = 1
opens s.AtLeast = 1
opens s.NotEqual = 1
opens s.Not = 1
opens s.Update = 1
opens s.Equals = 1
opens s.Less = 1
opens s.Greater = 1
opens s.Plus = 1
opens s.Minus = 1
opens r = 0

-- a name too, which a quantifier may bind
abbrev pub weight : Token → ℕ
weight (name x) = 1
weight (number n) = 0
weight (symbol r) = opens r

abbrev pub openings : List Token → ℕ
openings [] = 0
openings (t ∷ ts) = weight t + openings ts
