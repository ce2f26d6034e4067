-- What the symbols between quotes begin.
use Rattle.std.specs.Prelude.{Option, Some, None}
use Rattle.pm_tokens.specs.declared.symbol.Symbol.{Symbol}
use Rattle.pm_tokens.specs.declared.symbol.Symbol.TheVariants as s
use Rattle.pm_tokens.specs.Tokens.{Token, name, number, symbol}
use Rattle.pm_patterns.specs.declared.pattern.Sel.{Sel}
use Rattle.pm_patterns.specs.declared.pattern.Sel.TheVariants as sel
use Rattle.pm_patterns.specs.declared.pattern.Spat.{Spat}
use Rattle.pm_patterns.specs.declared.pattern.Spat.TheVariants as spat
use Rattle.pm_patterns.specs.declared.pattern.Pat.{Pat}
use Rattle.pm_patterns.specs.declared.pattern.Pat.TheVariants as pat
use Rattle.pm_patterns.specs.declared.signs.PatternSign.{PatternSign}
use Rattle.pm_patterns.specs.declared.signs.PatternSign.TheVariants as begin
use Rattle.pm_patterns.specs.declared.signs.Nesting.{Nesting}
use Rattle.pm_patterns.specs.declared.signs.Nesting.TheVariants.{Opens, Closes, Ampersand, Quote, Inside}

-- how a pattern begins that is no name
unfoldable pub pattern_sign : Symbol → Option PatternSign
pattern_sign s.Question = Some begin.Fresh
pattern_sign s.Wildcard = Some begin.Drop
pattern_sign s.Dollar = Some begin.Frame
pattern_sign s.Arrow = Some begin.Rewrite
pattern_sign s.BackArrow = Some begin.RewriteBack
pattern_sign s.OpenBracket = Some begin.Bracket
pattern_sign s.Open = Some begin.Group
pattern_sign s.Percent = Some begin.Fact
pattern_sign s.Hash = Some begin.Int
pattern_sign s.MinusHash = Some begin.Spat
pattern_sign s.Greater = Some begin.Elim
pattern_sign r = None

-- ---- what is one symbol alone

-- an introduction item
unfoldable pub item_of : Symbol → Option Pat
item_of s.Modality = Some pat.ModIntro
item_of s.DoubleSlash = Some pat.Done
item_of s.Asterisk = Some pat.Alls
item_of s.DoubleAsterisk = Some pat.AllsWands
item_of r = None

-- a selection
unfoldable pub sel_of : Symbol → Option Sel
sel_of s.Percent = Some sel.Pures
sel_of s.Hash = Some sel.Ints
sel_of s.Asterisk = Some sel.Spats
sel_of r = None

-- a specialisation pattern in its brackets
unfoldable pub premise_of : Symbol → Option Spat
premise_of s.Hash = Some spat.Persistent
premise_of s.Percent = Some spat.Pure
premise_of s.DoubleSlash = Some spat.Done
premise_of r = None

-- ---- what a token is to the brackets and parentheses around an ampersand

unfoldable pub nesting_of : Symbol → Nesting
nesting_of s.Open = Opens
nesting_of s.OpenBracket = Opens
nesting_of s.Close = Closes
nesting_of s.CloseBracket = Closes
nesting_of s.Ampersand = Ampersand
nesting_of s.Quote = Quote
nesting_of r = Inside

abbrev pub token_nesting : Token → Nesting
token_nesting (name x) = Inside
token_nesting (number n) = Inside
token_nesting (symbol r) = nesting_of r
