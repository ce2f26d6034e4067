-- The spellings of the symbols.
use Rattle.std.specs.Prelude.{ℕ, Bool, if◌then◌else◌, nat_lt, eqb, List, [], ◌∷◌, length, codes, Option, Some, None}
use Rattle.std.specs.List.{starts_with}
use Prim.Native.String.{String}
use lib.Utf8.{encodes}
use Rattle.pm_tokens.specs.Words.{lookup}
use Rattle.pm_tokens.specs.declared.mode.Mode.{Mode}
use Rattle.pm_tokens.specs.declared.mode.Mode.TheVariants.{Start, Outside, Quoted, OutsideLinear, QuotedLinear}
use Rattle.pm_tokens.specs.declared.symbol.Symbol.{Symbol}
use Rattle.pm_tokens.specs.declared.symbol.Symbol.TheVariants as s

-- the bytes of a spelling, and its symbol
abbrev pub Row : Type 0
Row = List ℕ × Symbol

abbrev pub row : String → Symbol → Row
row text symbol = (encodes (codes text), symbol)

-- outside quotes
unfoldable pub symbols : List Row
symbols =
    row "∀" s.Forall ∷
    row "∃" s.Exists ∷
    row "∗" s.Star ∷
    row "*" s.Asterisk ∷
    row "-∗" s.Wand ∷
    row "-*" s.Wand ∷
    row "==∗" s.UpdateWand ∷
    row "==*" s.UpdateWand ∷
    row "∧" s.And ∷
    row "/\\" s.And ∷
    row "∨" s.Or ∷
    row "\\/" s.Or ∷
    row "→" s.Arrow ∷
    row "->" s.Arrow ∷
    row "▷" s.Later ∷
    row "|>" s.Later ∷
    row "□" s.Persistently ∷
    row "<pers>" s.Persistently ∷
    row "↦" s.PointsTo ∷
    row "|->" s.PointsTo ∷
    row "⌜" s.OpenPure ∷
    row "[|" s.OpenPure ∷
    row "⌝" s.ClosePure ∷
    row "|]" s.ClosePure ∷
    row "≤" s.AtMost ∷
    row "<=" s.AtMost ∷
    row "≥" s.AtLeast ∷
    row ">=" s.AtLeast ∷
    row "≠" s.NotEqual ∷
    row "<>" s.NotEqual ∷
    row "¬" s.Not ∷
    row "~" s.Not ∷
    row "⊢" s.Entails ∷
    row "|-" s.Entails ∷
    row "|==>" s.Update ∷
    row "(" s.Open ∷
    row ")" s.Close ∷
    row "{" s.OpenBrace ∷
    row "}" s.CloseBrace ∷
    row "," s.Comma ∷
    row ":" s.Colon ∷
    row ":=" s.Defines ∷
    row "=" s.Equals ∷
    row "<" s.Less ∷
    row ">" s.Greater ∷
    row "+" s.Plus ∷
    row "-" s.Minus ∷
    row "/" s.Slash ∷
    row "$!" s.Terms ∷
    row "%I" s.Intuitionistic ∷
    row "\"" s.Quote ∷
    []

-- between quotes
unfoldable pub quoted_symbols : List Row
quoted_symbols =
    row "[" s.OpenBracket ∷
    row "]" s.CloseBracket ∷
    row "(" s.Open ∷
    row ")" s.Close ∷
    row "{" s.OpenBrace ∷
    row "}" s.CloseBrace ∷
    row "|" s.Bar ∷
    row "&" s.Ampersand ∷
    row "?" s.Question ∷
    row "$" s.Dollar ∷
    row "%" s.Percent ∷
    row "#" s.Hash ∷
    row "-#" s.MinusHash ∷
    row "-" s.Minus ∷
    row ">" s.Greater ∷
    row "->" s.Arrow ∷
    row "<-" s.BackArrow ∷
    row "!>" s.Modality ∷
    row "//" s.DoubleSlash ∷
    row "*" s.Asterisk ∷
    row "∗" s.Asterisk ∷
    row "**" s.DoubleAsterisk ∷
    row "\"" s.Quote ∷
    []

-- between the quotes of a text that starts with `linear`, beside those
unfoldable pub certificate_symbols : List Row
certificate_symbols =
    row "⊢" s.Entails ∷
    row "|-" s.Entails ∷
    []

-- words that are no names
unfoldable pub keywords : List Row
keywords =
    row "forall" s.Forall ∷
    row "exists" s.Exists ∷
    row "emp" s.Emp ∷
    row "True" s.True ∷
    row "False" s.False ∷
    []

-- ---- the longest symbol

abbrev pub begins : List ℕ → List ℕ → Bool
begins text bytes = starts_with eqb bytes text

-- the longer of two symbols, the first where neither is longer
unfoldable pub longer : Option (Symbol × ℕ) → Option (Symbol × ℕ) → Option (Symbol × ℕ)
longer (Some a) (Some b) = if nat_lt a.1 b.1 then Some b else Some a
longer (Some a) None = Some a
longer None b = b

unfoldable pub row_at : Row → List ℕ → Option (Symbol × ℕ)
row_at r bytes = if begins r.0 bytes then Some (r.1, length r.0) else None

-- the longest symbol that the bytes begin with, and its length
unfoldable pub longest : List Row → List ℕ → Option (Symbol × ℕ)
longest [] bytes = None
longest (r ∷ rs) bytes = longer (row_at r bytes) (longest rs bytes)

unfoldable pub symbol_at : Mode → List ℕ → Option (Symbol × ℕ)
symbol_at Start bytes = longest symbols bytes
symbol_at Outside bytes = longest symbols bytes
symbol_at OutsideLinear bytes = longest symbols bytes
symbol_at Quoted bytes = longest quoted_symbols bytes
symbol_at QuotedLinear bytes = longer (longest quoted_symbols bytes) (longest certificate_symbols bytes)

-- the symbol of a word
unfoldable pub keyword : List ℕ → Option Symbol
keyword word = lookup keywords word
