-- The tokens of a text, piece by piece.
use Rattle.std.proofs.Common.{◌≡◌, ℕ, zero, suc, ◌+◌, ◌-◌, ◌<◌, ◌≤◌, List, [], ◌∷◌, ◌++◌, length, drop, Some, None, refl, sym, ap, ◌∙◌, arith, append_assoc}
use Rattle.std.proofs.lemmas.List.{append-nil}
use Rattle.pm_tokens.specs.declared.mode.Mode.{Mode}
use Rattle.pm_tokens.specs.Tokens.{Place, place}
use Rattle.pm_tokens.specs.Modes.{after}
use Rattle.pm_tokens.specs.Pieces.{Piece, gap, token, first_piece}
use Rattle.pm_tokens.specs.Texts.{Lexed, put, lex, added, behind}

-- tokens found before
abbrev pub behind_all : List Place → Lexed → Lexed
behind_all ps rest = (ps ++ rest.0, rest.1)

-- what is left of a piece is passed over
lex-left : (mode : Mode) (left at : ℕ) (bs : List ℕ) → left ≤ length bs → lex mode left at bs ≡ lex mode 0 (at + left) (drop left bs)
unfolding lex
lex-left mode zero at bs le = ap (λ k. lex mode 0 k bs) (omega arith)
lex-left mode (suc left) at [] le = absurd (omega arith)
lex-left mode (suc left) at (b ∷ bs) le =
    let same : at + 1 + left ≡ at + suc left = omega arith in
    lex-left mode left (at + 1) bs (omega arith) ∙ ap (λ k. lex mode 0 k (drop left bs)) same

lex_past : (mode : Mode) (at n b : ℕ) (bs : List ℕ) → 0 < n → n ≤ suc (length bs) → lex mode (n - 1) (at + 1) bs ≡ lex mode 0 (at + n) (drop n (b ∷ bs))
lex_past mode at n b bs some within =
    let place : at + 1 + (n - 1) ≡ at + n = omega arith in
    let same : suc (n - 1) ≡ n = omega arith in
    let tail : drop (n - 1) bs ≡ drop n (b ∷ bs) = ap (λ k. drop k (b ∷ bs)) same in
    lex-left mode (n - 1) (at + 1) bs (omega arith) ∙ (ap (λ k. lex mode 0 k (drop (n - 1) bs)) place ∙ ap (λ rest. lex mode 0 (at + n) rest) tail)

pub lex_on : (mode : Mode) (at n : ℕ) (bs : List ℕ) (p : Piece) → first_piece mode bs ≡ Some (p, n) → 0 < n → n ≤ length bs
    → lex mode 0 at bs ≡ behind_all (added at p) (lex (behind mode p) 0 (at + n) (drop n bs))
unfolding lex
lex_on mode at n [] p is some within = absurd (omega arith)
lex_on mode at n (b ∷ bs) gap is some within = rw is (lex_past mode at n b bs some within)
lex_on mode at n (b ∷ bs) (token t) is some within = rw is (ap (λ rest. put (place t at) rest) (lex_past (after mode t) at n b bs some within))

-- a turn of the loop over a text
pub lex_more : (mode next : Mode) (at n : ℕ) (bs rest : List ℕ) (p : Piece) (ps qs : List Place) (total : Lexed) → first_piece mode bs ≡ Some (p, n) → 0 < n → n ≤ length bs
    → qs ≡ ps ++ added at p → next ≡ behind mode p → rest ≡ drop n bs → behind_all ps (lex mode 0 at bs) ≡ total → behind_all qs (lex next 0 (at + n) rest) ≡ total
lex_more mode next at n bs rest p ps qs total is some within grown follows past so_far =
    let left : Lexed = lex (behind mode p) 0 (at + n) (drop n bs) in
    let split : behind_all (ps ++ added at p) left ≡ behind_all ps (behind_all (added at p) left) = ap (λ xs. (xs, left.1)) (append_assoc ps (added at p) left.0) in
    rw (grown, follows, past) (split ∙ (ap (λ r. behind_all ps r) (sym (lex_on mode at n bs p is some within)) ∙ so_far))

pub lex_ends : (mode : Mode) (at : ℕ) (bs : List ℕ) → first_piece mode bs ≡ None → lex mode 0 at bs ≡ ([], at)
unfolding lex
lex_ends mode at [] is = refl
lex_ends mode at (b ∷ bs) is = rw is refl

pub lex_stops : (mode : Mode) (at : ℕ) (bs : List ℕ) (ps : List Place) (total : Lexed) → first_piece mode bs ≡ None → behind_all ps (lex mode 0 at bs) ≡ total → (ps, at) ≡ total
lex_stops mode at bs ps total is so_far =
    ap (λ xs. (xs, at)) (sym (append-nil ps)) ∙ (ap (λ r. behind_all ps r) (sym (lex_ends mode at bs is)) ∙ so_far)
