-- The tokens of printed pieces, piece by piece.
use Rattle.std.proofs.Common.{◌≡◌, ℕ, ◌+◌, ◌<◌, false, List, [], ◌∷◌, ◌++◌, length, length-append, drop, Some, refl, ap, ◌∙◌, arith}
use Rattle.std.proofs.Math.Seq.{drop-append_seam}
use Rattle.pm_tokens.specs.declared.mode.Mode.{Mode}
use Rattle.pm_tokens.specs.Tokens.{Token}
use Rattle.pm_tokens.specs.Pieces as read
use Rattle.pm_tokens.specs.Pieces.{is_quoted, first_piece}
use Rattle.pm_tokens.specs.Texts.{Lexed, lex, added, behind}
use Rattle.pm_tokens.proofs.Lexing.{behind_all, lex_on}
use Rattle.pm_grammar.specs.ReadingLaws.{tokens_at}
use Rattle.pm_print.specs.Printing.{Piece, blank, token, spelled, text_of, tokens_of}

abbrev pub read_as : Piece → read.Piece
read_as blank = read.gap
read_as (token t) = read.token t

-- a piece that is read before these bytes
pub record Stands (p : Piece) (rest : List ℕ) : Type 0 where
  pub found : (mode : Mode) → is_quoted mode ≡ false → first_piece mode (spelled p ++ rest) ≡ Some (read_as p, length (spelled p))
  pub some : 0 < length (spelled p)
  pub plain : (mode : Mode) → is_quoted mode ≡ false → is_quoted (behind mode (read_as p)) ≡ false

pub record Gives (found : Lexed) (ts : List Token) (stop : ℕ) : Type 0 where
  pub same : tokens_at found.0 ≡ ts
  pub end : found.1 ≡ stop

-- pieces whose text has their tokens, outside quotes
pub record Lexes (ps : List Piece) : Type 0 where
  pub lexes : (mode : Mode) (at : ℕ) → is_quoted mode ≡ false → Gives (lex mode 0 at (text_of ps)) (tokens_of ps) (at + length (text_of ps))

pub lexes_none : Lexes []
unfolding lex text_of tokens_of
lexes_none = record { lexes = λ mode at plain. record { same = refl; end = omega arith } }

added_tokens : (at : ℕ) (p : Piece) (ps : List Piece) (found : Lexed) → tokens_at found.0 ≡ tokens_of ps → tokens_at (behind_all (added at (read_as p)) found).0 ≡ tokens_of (p ∷ ps)
unfolding tokens_of
added_tokens at blank ps found e = e
added_tokens at (token t) ps found e = ap (λ ts. t ∷ ts) e

pub lexes_next : (p : Piece) (ps : List Piece) → Stands p (text_of ps) → Lexes ps → Lexes (p ∷ ps)
unfolding text_of
lexes_next p ps first later = record {
  lexes = λ mode at plain.
      let n = length (spelled p) in
      let bytes : List ℕ = spelled p ++ text_of ps in
      let all : length bytes ≡ n + length (text_of ps) = length-append (spelled p) (text_of ps) in
      let past : drop n bytes ≡ text_of ps = drop-append_seam (spelled p) (text_of ps) in
      let rest : Lexed = lex (behind mode (read_as p)) 0 (at + n) (text_of ps) in
      let step : lex mode 0 at bytes ≡ behind_all (added at (read_as p)) rest =
      lex_on mode at n bytes (read_as p) (first.found mode plain) first.some (omega (arith, all)) ∙ ap (λ xs. behind_all (added at (read_as p)) (lex (behind mode (read_as p)) 0 (at + n) xs)) past in
      let found = later.lexes (behind mode (read_as p)) (at + n) (first.plain mode plain) in
      record {
        same = ap (λ r. tokens_at r.0) step ∙ added_tokens at p ps rest found.same;
        end = ap (λ r. r.1) step ∙ (found.end ∙ omega (arith, all));
      };
}
