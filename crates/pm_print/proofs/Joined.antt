-- Parts that are added one after the other.
use Rattle.std.proofs.Common.{◌≡◌, ℕ, suc, ◌<◌, ◌≤◌, ℤ, Bool, true, false, cond, List, [], ◌∷◌, ◌++◌, Result, Ok, Err, refl, sym, ap, ◌∙◌, append_assoc, arith}
use Rattle.std.proofs.lemmas.Bool.Decides.{nat_tests}
use Rattle.std.specs.Prelude.{pos, negsuc, nat_lt, OnOk}
use Rattle.std.specs.Fmt.{decimal, signed_decimal}
use Rattle.std.proofs.lemmas.List.{append-nil}
use Rattle.pm_logic.specs.declared.list.Memory.{Memory}
use lib.Utf8.{encode}
use Rattle.pm_tokens.specs.declared.symbol.Symbol.TheVariants as s
use Rattle.pm_tokens.specs.Symbols.{symbols, keywords}
use Rattle.pm_tokens.specs.Tokens.{number}
use Rattle.pm_print.specs.Printing.{Piece, token, sign, between, spelled, spelling, same_symbol, text_of, literal, level}
use Rattle.pm_print.specs.declared.sign.Sign.TheVariants as g
use Rattle.pm_print.specs.Parts.{sign_pieces, opening, closing}

pub text_append : (ps qs : List Piece) → text_of (ps ++ qs) ≡ text_of ps ++ text_of qs
unfolding text_of
text_append [] qs = refl
text_append (p ∷ ps) qs = rw (text_append ps qs) (sym (append_assoc (spelled p) (text_of ps) (text_of qs)))

pub number_text : (n : ℕ) → text_of (token (number n) ∷ []) ≡ decimal n
unfolding text_of spelled
number_text n = append-nil (decimal n)

pub literal_text : (z : ℤ) → text_of (literal z) ≡ signed_decimal z
unfolding text_of spelled spelling same_symbol symbols keywords encode
literal_text (pos n) = append-nil (decimal n)
literal_text (negsuc n) = ap (λ ds. 45 ∷ ds) (append-nil (decimal (suc n)))

-- a part in parentheses, or without
levelled : (has needs : ℕ) (ps : List Piece) → level has needs ps ≡ opening has needs ++ (ps ++ closing has needs)
unfolding opening closing
levelled has needs ps = go (nat_lt has needs)
  where
    go : (b : Bool) → cond b (between s.Open s.Close ps) ps ≡ cond b (sign s.Open ∷ []) [] ++ (ps ++ cond b (sign s.Close ∷ []) [])
    go true = refl
    go false = sym (append-nil ps)

pub levelled_two : (has needs : ℕ) (a b : List Piece) → level has needs (a ++ b) ≡ opening has needs ++ (a ++ (b ++ closing has needs))
levelled_two has needs a b = levelled has needs (a ++ b) ∙ ap (λ ps. opening has needs ++ ps) (append_assoc a b (closing has needs))

pub levelled_three : (has needs : ℕ) (a b c : List Piece) → level has needs (a ++ b ++ c) ≡ opening has needs ++ (a ++ (b ++ (c ++ closing has needs)))
levelled_three has needs a b c = levelled has needs (a ++ b ++ c) ∙ simp append_assoc

pub two : (t₀ t₁ t₂ : List ℕ) (a b ps : List Piece) (r : Result (Unit {0}) Memory) → t₁ ≡ t₀ ++ text_of a → OnOk r (t₂ ≡ t₁ ++ text_of b) → ps ≡ a ++ b → OnOk r (t₂ ≡ t₀ ++ text_of ps)
two t₀ t₁ t₂ a b ps (Ok u) h₁ h₂ whole = h₂ ∙ rw (h₁, whole) (simp (text_append, append_assoc))
two t₀ t₁ t₂ a b ps (Err e) h₁ h₂ whole = tt

pub three : (t₀ t₁ t₂ t₃ : List ℕ) (a b c ps : List Piece) (r : Result (Unit {0}) Memory) → t₁ ≡ t₀ ++ text_of a → t₂ ≡ t₁ ++ text_of b → OnOk r (t₃ ≡ t₂ ++ text_of c)
    → ps ≡ a ++ (b ++ c) → OnOk r (t₃ ≡ t₀ ++ text_of ps)
three t₀ t₁ t₂ t₃ a b c ps (Ok u) h₁ h₂ h₃ whole = h₃ ∙ rw (h₂, h₁, whole) (simp (text_append, append_assoc))
three t₀ t₁ t₂ t₃ a b c ps (Err e) h₁ h₂ h₃ whole = tt

pub four : (t₀ t₁ t₂ t₃ t₄ : List ℕ) (a b c d ps : List Piece) (r : Result (Unit {0}) Memory) → t₁ ≡ t₀ ++ text_of a → t₂ ≡ t₁ ++ text_of b → t₃ ≡ t₂ ++ text_of c → OnOk r (t₄ ≡ t₃ ++ text_of d)
    → ps ≡ a ++ (b ++ (c ++ d)) → OnOk r (t₄ ≡ t₀ ++ text_of ps)
four t₀ t₁ t₂ t₃ t₄ a b c d ps (Ok u) h₁ h₂ h₃ h₄ whole = h₄ ∙ rw (h₃, h₂, h₁, whole) (simp (text_append, append_assoc))
four t₀ t₁ t₂ t₃ t₄ a b c d ps (Err e) h₁ h₂ h₃ h₄ whole = tt

pub five : (t₀ t₁ t₂ t₃ t₄ t₅ : List ℕ) (a b c d e ps : List Piece) (r : Result (Unit {0}) Memory) → t₁ ≡ t₀ ++ text_of a → t₂ ≡ t₁ ++ text_of b → t₃ ≡ t₂ ++ text_of c → t₄ ≡ t₃ ++ text_of d
    → OnOk r (t₅ ≡ t₄ ++ text_of e) → ps ≡ a ++ (b ++ (c ++ (d ++ e))) → OnOk r (t₅ ≡ t₀ ++ text_of ps)
five t₀ t₁ t₂ t₃ t₄ t₅ a b c d e ps (Ok u) h₁ h₂ h₃ h₄ h₅ whole = h₅ ∙ rw (h₄, h₃, h₂, h₁, whole) (simp (text_append, append_assoc))
five t₀ t₁ t₂ t₃ t₄ t₅ a b c d e ps (Err f) h₁ h₂ h₃ h₄ h₅ whole = tt

-- ---- parentheses

pub text_none : text_of [] ≡ []
unfolding text_of
text_none = refl

pub opening_some : (has needs : ℕ) → has < needs → opening has needs ≡ sign_pieces g.Open
unfolding opening sign_pieces
opening_some has needs lt = let e : nat_lt has needs ≡ true = grind (arith, nat_tests) in rw e refl

pub opening_none : (has needs : ℕ) → needs ≤ has → opening has needs ≡ []
unfolding opening
opening_none has needs le = let e : nat_lt has needs ≡ false = grind (arith, nat_tests) in rw e refl

pub closing_some : (has needs : ℕ) → has < needs → closing has needs ≡ sign_pieces g.Close
unfolding closing sign_pieces
closing_some has needs lt = let e : nat_lt has needs ≡ true = grind (arith, nat_tests) in rw e refl

pub closing_none : (has needs : ℕ) → needs ≤ has → closing has needs ≡ []
unfolding closing
closing_none has needs le = let e : nat_lt has needs ≡ false = grind (arith, nat_tests) in rw e refl

pub ruleset parentheses = (arith, text_none, append-nil, opening_some, opening_none, closing_some, closing_none)
