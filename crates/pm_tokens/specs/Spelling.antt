-- What is read of bytes that are put together.
use Rattle.std.specs.Prelude.{◌≡◌, ℕ, Bool, true, false, not, ◌&&◌, ◌||◌, List, ◌∷◌, ◌++◌, length, codes, Option, Some, None}
use Rattle.std.specs.Char.{encode_utf8}
use Rattle.std.specs.List.{list_all}
use Rattle.std.specs.Str.{bytes_eq}
use lib.Utf8.{scalar}
use Rattle.pm_tokens.specs.declared.mode.Mode.{Mode}
use Rattle.pm_tokens.specs.declared.symbol.Symbol.{Symbol}
use Rattle.pm_tokens.specs.Tokens.{name, number, symbol}
use Rattle.pm_tokens.specs.Symbols.{begins, symbol_at}
use Rattle.pm_names.specs.Names.{starts_name, continues_name}
use Rattle.pm_tokens.specs.Characters.{first_char, is_digit, number_of}
use Rattle.pm_names.specs.Names.{is_name}
use Rattle.pm_tokens.specs.Pieces.{token, is_quoted, is_blank, begins_with, first_piece}

abbrev pub ends_by : Option (ℕ × ℕ) → Bool
ends_by None = true
ends_by (Some (c, n)) = not (continues_name c)

-- behind a name these bytes do not continue it
abbrev pub ends_name : List ℕ → Bool
ends_name rest = ends_by (first_char rest)

-- a name is read whole where the bytes behind it do not continue it; `_` alone between quotes is a symbol
abbrev pub NamesAreRead : Type 0
NamesAreRead = (mode : Mode) (w rest : List ℕ) → is_name w ≡ true → (is_quoted mode && bytes_eq w (codes "_")) ≡ false → ends_name rest ≡ true
    → first_piece mode (w ++ rest) ≡ Some (token (name w), length w)

-- digits are read whole where no digit follows
abbrev pub NumbersAreRead : Type 0
NumbersAreRead = (mode : Mode) (d : ℕ) (ds rest : List ℕ) → list_all is_digit (d ∷ ds) ≡ true → begins_with is_digit rest ≡ false
    → first_piece mode (d ∷ ds ++ rest) ≡ Some (token (number (number_of (d ∷ ds))), length (d ∷ ds))

-- what begins with a blank, a comment or a digit
abbrev pub begins_otherwise : List ℕ → Bool
begins_otherwise bytes = begins_with is_blank bytes || begins (codes "(*") bytes || begins_with is_digit bytes

-- the longest symbol is read where its first character starts no name
abbrev pub SymbolsAreRead : Type 0
SymbolsAreRead = (mode : Mode) (c n : ℕ) (rest : List ℕ) (s : Symbol) → scalar c ≡ true → starts_name c ≡ false → begins_otherwise (encode_utf8 c ++ rest) ≡ false
    → symbol_at mode (encode_utf8 c ++ rest) ≡ Some (s, n) → first_piece mode (encode_utf8 c ++ rest) ≡ Some (token (symbol s), n)
