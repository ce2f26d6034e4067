-- The first characters of a text, and runs of characters.
use Rattle.std.proofs.Common.{◌≡◌, ℕ, zero, suc, ◌+◌, ◌-◌, ◌<◌, ◌≤◌, Bool, true, false, List, [], ◌∷◌, length, drop, Option, Some, None, refl, ap, arith}
use Rattle.std.specs.Str.{IsUtf8, is_utf8, chars}
use Rattle.std.proofs.lemmas.Str.{chars-nil, is_utf8-from_IsUtf8, IsUtf8-from_is_utf8}
use Rattle.pm_names.proofs.Characters.{IsFirst}
use Rattle.pm_names.specs.Names.{continues_name}
use Rattle.pm_tokens.specs.Characters.{one, only_char, first_char, run}

pub one_none : (bs : List ℕ) → length bs ≡ 0 → None ≡ one (chars bs)
one_none [] e = rw chars-nil refl
one_none (b ∷ bs) e = absurd (omega arith)

pub one_some : (bs rest : List ℕ) (c : ℕ) → IsFirst bs c rest → length rest ≡ 0 → Some c ≡ one (chars bs)
one_some bs [] c first e = rw (first.all, chars-nil) refl
one_some bs (b ∷ rest) c first e = absurd (omega arith)

pub one_more : (bs rest more : List ℕ) (c d : ℕ) → IsFirst bs c rest → IsFirst rest d more → None ≡ one (chars bs)
one_more bs rest more c d first second = rw (first.all, second.all) refl

pub only_text : (bs : List ℕ) (o : Option ℕ) → IsUtf8 bs → o ≡ one (chars bs) → o ≡ only_char bs
unfolding only_char
only_text bs o text is = rw (is_utf8-from_IsUtf8 bs text) is

pub no_text : (bs : List ℕ) → (IsUtf8 bs → ⊥) → None ≡ only_char bs
unfolding only_char
no_text bs h = go (is_utf8 bs) refl
  where
    go : (b : Bool) → is_utf8 bs ≡ b → None ≡ only_char bs
    go true e = absurd (h (IsUtf8-from_is_utf8 bs e))
    go false e = rw e refl

-- what is left of a character is passed over
pub run-left : (left : ℕ) (bs : List ℕ) → left ≤ length bs → run left bs ≡ left + run 0 (drop left bs)
unfolding run
run-left zero bs le = omega arith
run-left (suc left) [] le = absurd (omega arith)
run-left (suc left) (b ∷ bs) le = let h = run-left left bs (omega arith) in omega (arith, h)

-- a turn of the loop over a run
pub run_on : (bs : List ℕ) (c len found total : ℕ) → first_char bs ≡ Some (c, len) → 0 < len → len ≤ length bs → continues_name c ≡ true
    → found + run 0 bs ≡ total → found + len + run 0 (drop len bs) ≡ total
unfolding run
run_on [] c len found total is some within pass so_far = absurd (omega arith)
run_on (b ∷ bs) c len found total is some within pass so_far =
    let first : run 0 (b ∷ bs) ≡ suc (run (len - 1) bs) = rw (is, pass) refl in
    let left = run-left (len - 1) bs (omega arith) in
    let same : len ≡ suc (len - 1) = omega arith in
    let tail : drop len (b ∷ bs) ≡ drop (len - 1) bs = ap (λ k. drop k (b ∷ bs)) same in
    rw tail (omega (arith, first, left, so_far))

pub run_stops : (bs : List ℕ) (c len found total : ℕ) → first_char bs ≡ Some (c, len) → continues_name c ≡ false → found + run 0 bs ≡ total → found ≡ total
unfolding run
run_stops [] c len found total is fail so_far = omega arith
run_stops (b ∷ bs) c len found total is fail so_far =
    let none : run 0 (b ∷ bs) ≡ 0 = rw (is, fail) refl in omega (arith, none, so_far)

pub run_ends : (bs : List ℕ) (found total : ℕ) → first_char bs ≡ None → found + run 0 bs ≡ total → found ≡ total
unfolding run
run_ends [] found total is so_far = omega arith
run_ends (b ∷ bs) found total is so_far =
    let none : run 0 (b ∷ bs) ≡ 0 = rw is refl in omega (arith, none, so_far)
