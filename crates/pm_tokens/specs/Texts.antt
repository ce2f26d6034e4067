-- The tokens of a text.
use Rattle.std.specs.Prelude.{◌≡◌, ◌≤◌, ℕ, zero, suc, ◌+◌, ◌-◌, List, [], ◌∷◌, drop, Option, Some, None}
use Rattle.pm_tokens.specs.declared.mode.Mode.{Mode}
use Rattle.pm_tokens.specs.declared.mode.Mode.TheVariants.{Start}
use Rattle.pm_tokens.specs.declared.token.Tokens.{Tokens}
use Rattle.pm_tokens.specs.Tokens.{Token, Place, place, places}
use Rattle.pm_tokens.specs.Modes.{after}
use Rattle.pm_tokens.specs.Pieces.{Piece, gap, token, first_piece}

-- tokens, and the offset where they stop: the end of the text, or the first byte that begins no token
abbrev pub Lexed : Type 0
Lexed = List Place × ℕ

abbrev pub put : Place → Lexed → Lexed
put p rest = (p ∷ rest.0, rest.1)

abbrev pub lex_by : Mode → (at : ℕ) → Option (Piece × ℕ) → (Mode → ℕ → Lexed) → Lexed
lex_by mode at None go = ([], at)
lex_by mode at (Some (gap, n)) go = go mode (n - 1)
lex_by mode at (Some (token t, n)) go = put (place t at) (go (after mode t) (n - 1))

-- The tokens of the bytes from an offset on, of which so many are left of the piece before.
unfoldable pub lex : Mode → (left at : ℕ) → List ℕ → Lexed
lex mode left at [] = ([], at)
lex mode (suc left) at (b ∷ bytes) = lex mode left (at + 1) bytes
lex mode zero at (b ∷ bytes) = lex_by mode at (first_piece mode (b ∷ bytes)) (λ next left. lex next left (at + 1) bytes)

abbrev pub tokens : List ℕ → Lexed
tokens text = lex Start 0 0 text

-- The same said step by step: tokens of the bytes from an offset on, and where they stop.
pub data AreTokens : Mode → (at : ℕ) → List ℕ → List Place → (stop : ℕ) → Type 0 where
  stops : {mode : Mode} {at : ℕ} {bytes : List ℕ} → first_piece mode bytes ≡ None → AreTokens mode at bytes [] at
  passes : {mode : Mode} {at n stop : ℕ} {bytes : List ℕ} {ps : List Place} → first_piece mode bytes ≡ Some (gap, n)
      → AreTokens mode (at + n) (drop n bytes) ps stop → AreTokens mode at bytes ps stop
  takes : {mode : Mode} {at n stop : ℕ} {bytes : List ℕ} {ps : List Place} {t : Token} → first_piece mode bytes ≡ Some (token t, n)
      → AreTokens (after mode t) (at + n) (drop n bytes) ps stop → AreTokens mode at bytes (place t at ∷ ps) stop

-- offsets that rise from one on, and stay below another
abbrev pub Rise : ℕ → List Place → ℕ → Type 0
Rise at [] stop = at ≤ stop
Rise at (place t k ∷ ps) stop = (at ≤ k) × Rise (k + 1) ps stop

-- a text has one list of tokens
abbrev pub HasOneList : Type 0
HasOneList = (text : List ℕ) → AreTokens Start 0 text (tokens text).0 (tokens text).1
    × ((ps : List Place) (stop : ℕ) → AreTokens Start 0 text ps stop → tokens text ≡ (ps, stop))

-- ---- what a piece adds

abbrev pub added : (at : ℕ) → Piece → List Place
added at gap = []
added at (token t) = place t at ∷ []

abbrev pub behind : Mode → Piece → Mode
behind mode gap = mode
behind mode (token t) = after mode t

abbrev pub lexed : Tokens → Lexed
lexed found = (places found.list.items, found.stop)
