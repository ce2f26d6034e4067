-- The pieces of a text: blanks, comments and tokens.
use Rattle.std.specs.Prelude.{◌≡◌, ℕ, zero, suc, ◌+◌, ◌-◌, Bool, true, false, ◌||◌, ◌&&◌, ◌==◌, if◌then◌else◌, List, [], ◌∷◌, take, codes, Option, Some, None}
use Rattle.std.specs.List.{prefix_len}
use Rattle.std.specs.Str.{bytes_eq}
use Rattle.pm_tokens.specs.declared.mode.Mode.{Mode}
use Rattle.pm_tokens.specs.declared.mode.Mode.TheVariants.{Start, Outside, Quoted, OutsideLinear, QuotedLinear}
use Rattle.pm_tokens.specs.declared.symbol.Symbol.{Symbol}
use Rattle.pm_tokens.specs.declared.symbol.Symbol.TheVariants.{Wildcard}
use Rattle.pm_tokens.specs.declared.pieces.Piece.{Piece as ReadPiece}
use Rattle.pm_tokens.specs.declared.pieces.Piece.TheVariants as made
use Rattle.pm_tokens.specs.Tokens.{Token, name, number, symbol, token_of}
use Rattle.pm_tokens.specs.Symbols.{begins, keyword, symbol_at}
use Rattle.pm_tokens.specs.Characters.{is_digit, number_of, name_len}

pub data Piece : Type 0 where
  -- a blank or a comment
  gap : Piece
  token : (t : Token) → Piece

abbrev pub piece_of : ReadPiece → Piece
piece_of made.Gap = gap
piece_of (made.Token t) = token (token_of t)

-- a piece of code, and its length
abbrev pub Finds : Option (ReadPiece × ℕ) → Option (Piece × ℕ) → Type 0
Finds None found = found ≡ None
Finds (Some x) found = found ≡ Some (piece_of x.0, x.1)

-- space, tab, CR and LF
abbrev pub is_blank : ℕ → Bool
is_blank b = b == 32 || b == 9 || b == 13 || b == 10

abbrev pub begins_with : (ℕ → Bool) → List ℕ → Bool
begins_with p [] = false
begins_with p (b ∷ bytes) = p b

-- ---- comments

-- how many comments are open behind what the bytes begin with, and how many bytes that has
unfoldable pub comment_step : ℕ → List ℕ → ℕ × ℕ
comment_step depth bytes =
    if begins (codes "(*") bytes then (depth + 1, 2)
    else if begins (codes "*)") bytes then (depth - 1, 2)
    else (depth, 1)

-- The offset behind the comment, if it is closed: so many bytes are left of the last step, and so many comments are open.
unfoldable pub comment_end : (at left depth : ℕ) → List ℕ → Option ℕ
comment_end at (suc left) depth [] = None
comment_end at (suc left) depth (b ∷ bytes) = comment_end (at + 1) left depth bytes
comment_end at zero zero bytes = Some at
comment_end at zero (suc depth) [] = None
comment_end at zero (suc depth) (b ∷ bytes) =
    let step = comment_step (suc depth) (b ∷ bytes) in
    comment_end (at + 1) (step.1 - 1) step.0 bytes

-- ---- pieces and their lengths

abbrev pub comment_by : Option ℕ → Option (Piece × ℕ)
comment_by (Some n) = Some (gap, n)
comment_by None = None

-- a comment from its `(*` on
unfoldable pub comment : List ℕ → Option (Piece × ℕ)
comment bytes = comment_by (comment_end 0 2 1 bytes)

unfoldable pub digits : List ℕ → Option (Piece × ℕ)
digits bytes = let n = prefix_len is_digit bytes in Some (token (number (number_of (take n bytes))), n)

abbrev pub is_quoted : Mode → Bool
is_quoted Start = false
is_quoted Outside = false
is_quoted Quoted = true
is_quoted OutsideLinear = false
is_quoted QuotedLinear = true

abbrev pub word_by : List ℕ → Option Symbol → Token
word_by word (Some s) = symbol s
word_by word None = name word

-- the token that a word is
unfoldable pub word : Mode → List ℕ → Token
word mode letters = if is_quoted mode && bytes_eq letters (codes "_") then symbol Wildcard else word_by letters (keyword letters)

abbrev pub sign_by : Option (Symbol × ℕ) → Option (Piece × ℕ)
sign_by (Some s) = Some (token (symbol s.0), s.1)
sign_by None = None

-- a word of n bytes, or a symbol where n is 0
unfoldable pub word_or_sign : Mode → ℕ → List ℕ → Option (Piece × ℕ)
word_or_sign mode n bytes = if n == 0 then sign_by (symbol_at mode bytes) else Some (token (word mode (take n bytes)), n)

-- the piece that the bytes begin with, and its length
unfoldable pub first_piece : Mode → List ℕ → Option (Piece × ℕ)
first_piece mode [] = None
first_piece mode (b ∷ bytes) =
    if is_blank b then Some (gap, 1)
    else if begins (codes "(*") (b ∷ bytes) then comment (b ∷ bytes)
    else if is_digit b then digits (b ∷ bytes)
    else word_or_sign mode (name_len (b ∷ bytes)) (b ∷ bytes)
