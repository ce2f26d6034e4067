-- What a byte does: whether that depends on the bytes behind it, and what it finishes.
use Rattle.std.proofs.Common.{◌≡◌, ℕ, zero, suc, ◌+◌, ◌-◌, ◌<◌, add-one, Bool, true, false, cond, ◌&&◌, ◌||◌, not, ◌==◌, List, [], ◌∷◌, Option, Some, None, refl, sym, ap, subst, ◌∙◌, arith}
use Rattle.std.specs.Prelude.{codes, eqb}
use Rattle.std.proofs.lemmas.Bool.Decides.{nat_tests}
use Rattle.std.proofs.lemmas.Bool.{or_parts}
use Rattle.pm_tokens.specs.Symbols.{begins}
use Rattle.pm_tokens.specs.Pieces.{is_blank, begins_with}
use Rattle.pm_cutter.specs.Cutting.{Mode, gap, inside, comment, passing, uncommented, Move, is_stop, is_brace, in_sentence, move_over, start_of}
use Rattle.pm_cutter.specs.Machine.{region_of, passed, mode_of, from_or, waits}
use Rattle.pm_cutter.specs.declared.mode.Mode.{Mode as KeptMode}

-- ---- the bytes behind

-- one more byte is enough
pub two : (end last : Bool) (m : Mode) (at b c : ℕ) (xs ys : List ℕ) → move_over end m at (b ∷ c ∷ xs) ≡ move_over last m at (b ∷ c ∷ ys)
unfolding move_over in_sentence is_stop is_brace
two end last gap at b c xs ys = refl
two end last (inside start quoted) at b c xs ys = refl
two end last (comment n m) at b c xs ys = refl
two end last (passing m) at b c xs ys = refl

no_stop : (x y : Bool) → (x && not y) ≡ false → (t : Bool) → (not y && (x && t)) ≡ false
no_stop true true e t = refl
no_stop true false e t = absurd cc
no_stop false true e t = refl
no_stop false false e t = refl

pub not_byte : (b n : ℕ) → (b == n) ≡ false → eqb n b ≡ false
not_byte b n e = grind (arith, nat_tests, e)

pub is_number : (b n : ℕ) → (b == n) ≡ true → b ≡ n
is_number b n e = grind (arith, nat_tests, e)

-- no byte is needed where none is waited for
pub settled : (end : Bool) (m : Mode) (at b : ℕ) (xs : List ℕ) → waits m b ≡ false → move_over end m at (b ∷ xs) ≡ move_over false m at (b ∷ [])
unfolding move_over in_sentence is_stop is_brace waits
settled end gap at b [] e = let h = or_parts (b == 46) (b == 40) e in rw h.0 refl
settled end gap at b (c ∷ xs) e = let h = or_parts (b == 46) (b == 40) e in rw (not_byte b 40 h.1, h.0) refl
settled end (inside start quoted) at b [] e =
    let h = or_parts (b == 46 && not quoted) (b == 40) e in rw (no_stop (b == 46) quoted h.0 end, no_stop (b == 46) quoted h.0 false) refl
settled end (inside start quoted) at b (c ∷ xs) e =
    let h = or_parts (b == 46 && not quoted) (b == 40) e in
    rw (not_byte b 40 h.1, no_stop (b == 46) quoted h.0 (is_blank c), no_stop (b == 46) quoted h.0 false) refl
settled end (comment n m) at b [] e = refl
settled end (comment n m) at b (c ∷ xs) e = let h = or_parts (b == 40) (b == 42) e in rw (not_byte b 40 h.0, not_byte b 42 h.1) refl
settled end (passing m) at b xs e = refl

either : (x y : Bool) (P : Type 0) → (x || y) ≡ true → (x ≡ true → P) → (y ≡ true → P) → P
either true y P e f g = f refl
either false y P e f g = g e

pub first_true : (x y : Bool) → (x && y) ≡ true → x ≡ true
first_true true y e = refl
first_true false y e = absurd cc

-- the bytes that may wait
pub data Waiting : ℕ → Type 0 where
  stop : Waiting 46
  open_ : Waiting 40
  star : Waiting 42

at_byte : (b n : ℕ) → (b == n) ≡ true → Waiting n → Waiting b
at_byte b n e w = subst (λ (k : ℕ). Waiting k) (sym (is_number b n e)) w

pub waiting : (m : Mode) (b : ℕ) → waits m b ≡ true → Waiting b
unfolding waits
waiting gap b e = either (b == 46) (b == 40) (Waiting b) e (λ h. at_byte b 46 h stop) (λ h. at_byte b 40 h open_)
waiting (inside start quoted) b e = either (b == 46 && not quoted) (b == 40) (Waiting b) e (λ h. at_byte b 46 (first_true (b == 46) (not quoted) h) stop) (λ h. at_byte b 40 h open_)
waiting (comment n m) b e = either (b == 40) (b == 42) (Waiting b) e (λ h. at_byte b 40 h open_) (λ h. at_byte b 42 h star)
waiting (passing m) b e = absurd cc

-- ---- what a byte finishes

-- what a byte does at this offset, where a sentence started there or none did
pub data Does (xs : List ℕ) (start : Option ℕ) (at : ℕ) : Move → Type 0 where
  leaves : (m : Mode) → start_of m ≡ None → Does xs start at (m, [])
  stays : (m : Mode) → start_of m ≡ Some (from_or at start) → Does xs start at (m, [])
  stops : Does xs start at (gap, (from_or at start, at) ∷ [])
  braces : start ≡ None → is_brace xs ≡ true → Does xs start at (gap, (at, at + 1) ∷ [])

by_test : {xs : List ℕ} {s : Option ℕ} {at : ℕ} (t : Bool) (x y : Move) → (t ≡ true → Does xs s at x) → Does xs s at y → Does xs s at (cond t x y)
by_test true x y f g = f refl
by_test false x y f g = g

keeps : (xs : List ℕ) (s : Option ℕ) (at : ℕ) (m : Mode) → start_of m ≡ s → Does xs s at (m, [])
keeps xs None at m e = leaves m e
keeps xs (Some start) at m e = stays m e

does_inside : (end : Bool) (s : Option ℕ) (quoted : Bool) (at : ℕ) (xs : List ℕ) → Does xs s at (in_sentence end (from_or at s) quoted at xs)
unfolding in_sentence start_of
does_inside end s quoted at xs =
    by_test (begins (codes "\"") xs) _ _ (λ _. stays (inside (from_or at s) (not quoted)) refl)
    (by_test (not quoted && is_stop end xs) _ _ (λ _. stops) (stays (inside (from_or at s) quoted) refl))

start_of-uncommented : (n : ℕ) (m : Mode) → start_of (uncommented n m) ≡ start_of m
unfolding start_of
start_of-uncommented zero m = refl
start_of-uncommented (suc n) m = refl

pub does : (end : Bool) (m : Mode) (at : ℕ) (xs : List ℕ) → Does xs (start_of m) at (move_over end m at xs)
unfolding move_over start_of
does end gap at xs =
    by_test (begins (codes "(*") xs) _ _ (λ _. leaves (passing (comment 0 gap)) refl)
    (by_test (begins_with is_blank xs) _ _ (λ _. leaves gap refl)
    (by_test (is_brace xs) _ _ (λ e. braces refl e) (does_inside end None false at xs)))
does end (inside start quoted) at xs =
    by_test (begins (codes "(*") xs) _ _ (λ _. stays (passing (comment 0 (inside start quoted))) refl) (does_inside end (Some start) quoted at xs)
does end (comment n m) at xs =
    by_test (begins (codes "(*") xs) _ _ (λ _. keeps xs (start_of m) at (passing (comment (suc n) m)) refl)
    (by_test (begins (codes "*)") xs) _ _ (λ _. keeps xs (start_of m) at (passing (uncommented n m)) (start_of-uncommented n m)) (keeps xs (start_of m) at (comment n m) refl))
does end (passing m) at xs = keeps xs (start_of m) at m refl

pub no_brace : (b : ℕ) → Waiting b → is_brace (b ∷ []) ≡ true → ⊥
unfolding is_brace
no_brace b stop e = cc
no_brace b open_ e = cc
no_brace b star e = cc

finishes_none : (t : Bool) (x y : Move) → x.1 ≡ [] → (t ≡ false → y.1 ≡ []) → (cond t x y).1 ≡ []
finishes_none true x y e f = e
finishes_none false x y e f = f refl

never : (x : Bool) → (x && false) ≡ false
never true = refl
never false = refl

no_stop_last : (start : ℕ) (quoted : Bool) (at b : ℕ) → (in_sentence false start quoted at (b ∷ [])).1 ≡ []
unfolding in_sentence is_stop
no_stop_last start quoted at b =
    let none : (not quoted && (b == 46 && false)) ≡ false = ap (λ t. not quoted && t) (never (b == 46)) ∙ never (not quoted) in
    finishes_none (begins (codes "\"") (b ∷ [])) _ _ refl (λ _. stopped (not quoted && is_stop false (b ∷ [])) none)
  where
    stopped : (t : Bool) → t ≡ false → (cond {A = Move} t (gap, (start, at) ∷ []) (inside start quoted, [])).1 ≡ []
    stopped true h = absurd cc
    stopped false h = refl

-- a last byte that waits finishes nothing, if the end is no blank
pub none_waiting : (m : Mode) (at b : ℕ) → waits m b ≡ true → (move_over false m at (b ∷ [])).1 ≡ []
unfolding move_over
none_waiting gap at b e =
    finishes_none (begins (codes "(*") (b ∷ [])) _ _ refl
    (λ _. finishes_none (is_blank b) _ _ refl
    (λ _. brace (is_brace (b ∷ [])) refl))
  where
    brace : (t : Bool) → is_brace (b ∷ []) ≡ t → (cond {A = Move} t (gap, (at, at + 1) ∷ []) (in_sentence false at false at (b ∷ []))).1 ≡ []
    brace true h = absurd (no_brace b (waiting gap b e) h)
    brace false h = no_stop_last at false at b
none_waiting (inside start quoted) at b e = finishes_none (begins (codes "(*") (b ∷ [])) _ _ refl (λ _. no_stop_last start quoted at b)
none_waiting (comment n m) at b e =
    finishes_none (begins (codes "(*") (b ∷ [])) _ _ refl
    (λ _. finishes_none (begins (codes "*)") (b ∷ [])) _ _ refl (λ _. refl))
none_waiting (passing m) at b e = refl

-- ---- in comments

pub opens_more : (end : Bool) (n at : ℕ) (m : Mode) (xs : List ℕ) → 0 < n → begins (codes "(*") xs ≡ true → move_over end (uncommented n m) at xs ≡ (passing (uncommented (n + 1) m), [])
unfolding move_over
opens_more end zero at m xs some e = absurd (omega arith)
opens_more end (suc n) at m xs some e = rw (e, add-one) refl

pub closes_one : (end : Bool) (n at : ℕ) (m : Mode) (xs : List ℕ) → 0 < n → begins (codes "(*") xs ≡ false → begins (codes "*)") xs ≡ true → move_over end (uncommented n m) at xs ≡ (passing (uncommented (n - 1) m), [])
unfolding move_over
closes_one end zero at m xs some f e = absurd (omega arith)
closes_one end (suc n) at m xs some f e = let same : suc n - 1 ≡ n = omega arith in rw (f, e, same) refl

pub in_comments : (end : Bool) (n at : ℕ) (m : Mode) (xs : List ℕ) → 0 < n → begins (codes "(*") xs ≡ false → begins (codes "*)") xs ≡ false → move_over end (uncommented n m) at xs ≡ (uncommented n m, [])
unfolding move_over
in_comments end zero at m xs some f e = absurd (omega arith)
in_comments end (suc n) at m xs some f e = rw (f, e) refl

pub start_of-mode_of : (m : KeptMode) → start_of (mode_of m) ≡ start_of (region_of m.region)
unfolding start_of
start_of-mode_of m = go m.passing m.depth
  where
    go : (t : Bool) (n : ℕ) → start_of (passed t (uncommented n (region_of m.region))) ≡ start_of (region_of m.region)
    go true zero = refl
    go true (suc n) = refl
    go false zero = refl
    go false (suc n) = refl
