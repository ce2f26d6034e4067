-- Which symbols may come next.
use Rattle.std.specs.Prelude.{Bool, false, if◌then◌else◌, codes}
use Rattle.std.specs.Str.{bytes_eq}
use denote.Enum.Bare.{sameb}
use Rattle.pm_tokens.specs.contracts.symbol.Symbol.{the_type}
use Rattle.pm_tokens.specs.declared.mode.Mode.{Mode}
use Rattle.pm_tokens.specs.declared.mode.Mode.TheVariants.{Start, Outside, Quoted, OutsideLinear, QuotedLinear}
use Rattle.pm_tokens.specs.declared.symbol.Symbol.TheVariants.{Quote}
use Rattle.pm_tokens.specs.Tokens.{Token, name, number, symbol}

-- behind a token that is no quote; the flag says whether it is the word `linear`
abbrev pub started : Mode → Bool → Mode
started Start linear = if linear then OutsideLinear else Outside
started Outside linear = Outside
started Quoted linear = Quoted
started OutsideLinear linear = OutsideLinear
started QuotedLinear linear = QuotedLinear

abbrev pub after_quote : Mode → Mode
after_quote Start = Quoted
after_quote Outside = Quoted
after_quote Quoted = Outside
after_quote OutsideLinear = QuotedLinear
after_quote QuotedLinear = OutsideLinear

unfoldable pub after : Mode → Token → Mode
after m (name w) = started m (bytes_eq w (codes "linear"))
after m (number n) = started m false
after m (symbol s) = if sameb the_type s Quote then after_quote m else started m false
