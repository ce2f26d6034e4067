-- Tokens without where they lie in memory.
use Rattle.std.specs.Prelude.{ℕ, List, map}
use Rattle.pm_tokens.specs.declared.symbol.Symbol.{Symbol}
use Rattle.pm_tokens.specs.declared.token.Token.{Token as ReadToken}
use Rattle.pm_tokens.specs.declared.token.Token.TheVariants as made
use Rattle.pm_tokens.specs.declared.token.Placed.{Placed}

pub data Token : Type 0 where
  name : (letters : List ℕ) → Token
  number : (value : ℕ) → Token
  symbol : (s : Symbol) → Token

-- a token and the offset of its first byte
pub data Place : Type 0 where
  place : (token : Token) (at : ℕ) → Place

-- ---- the tokens of code

abbrev pub token_of : ReadToken → Token
token_of (made.Name w) = name w.now
token_of (made.Number n) = number n
token_of (made.Symbol s) = symbol s

abbrev pub place_of : Placed → Place
place_of p = place (token_of p.token) p.at

abbrev pub places : List Placed → List Place
places ps = map place_of ps
