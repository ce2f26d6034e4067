-- Reading numbers up to a line's end, in a loop.
use Rattle.std.proofs.Common.{◌≡◌, ℕ, zero, suc, ◌<◌, ◌≤◌, ◌+◌, ◌-◌, true, false, List, [], ◌∷◌, ◌++◌, refl, sym, ◌∙◌, ap, arith, append_assoc, append-nil, Result, Ok, Err}
use Rattle.pm_logic.specs.declared.limits.TheConstants.{MAX_VARIABLES}
use Rattle.pm_dtext.specs.declared.fault.Fault.{Fault}
use Rattle.pm_dtext.specs.Reading.{◌>>=◌, part_at, says_at, up_to, skip_at, ends_at, ends_line, numbers_at}
use Rattle.pm_dtext.proofs.Items.{behind, whole}

-- of the numbers at the bytes these are read, and at most so many are left at the rest
pub record NumbersLeft (most : ℕ) (bytes : List ℕ) (done : List ℕ) (turn : ℕ) (rest : List ℕ) : Type 0 where
  pub within : turn ≤ most
  pub same : numbers_at most bytes ≡ behind done (numbers_at (most - turn) rest)

pub numbers_begun : (most : ℕ) (bytes : List ℕ) → NumbersLeft most bytes [] 0 bytes
numbers_begun most bytes =
    let all : most - 0 ≡ most = omega arith in
    record { within = omega arith; same = whole (numbers_at most bytes) ∙ ap (λ n. behind [] (numbers_at n bytes)) (sym all) }

one_more : (left : ℕ) (rest : List ℕ) (x : ℕ) (next done : List ℕ) → ends_line rest ≡ false → part_at (says_at (up_to MAX_VARIABLES)) rest ≡ Ok (x, next) → behind done (numbers_at (suc left) rest) ≡ behind (done ++ x ∷ []) (numbers_at left next)
unfolding numbers_at
one_more left rest x next done still e = rw still (rw e (go (numbers_at left next)))
  where
    go : (r : Result (List ℕ × List ℕ) Fault) → behind done (r >>= λ xs. Ok (x ∷ xs.0, xs.1)) ≡ behind (done ++ x ∷ []) r
    go (Ok xs) = ap (λ ys. Ok (ys, xs.1)) (sym (append_assoc done (x ∷ []) xs.0))
    go (Err f) = refl

pub numbers_turned : (most : ℕ) (bytes done : List ℕ) (turn : ℕ) (rest : List ℕ) (x : ℕ) (next : List ℕ) → NumbersLeft most bytes done turn rest → turn < most → ends_line rest ≡ false → part_at (says_at (up_to MAX_VARIABLES)) rest ≡ Ok (x, next) → NumbersLeft most bytes (done ++ x ∷ []) (turn + 1) next
numbers_turned most bytes done turn rest x next h more still e =
    let now : most - turn ≡ suc (most - (turn + 1)) = omega arith in
    record {
      within = omega arith;
      same = h.same ∙ (ap (λ n. behind done (numbers_at n rest)) now ∙ one_more (most - (turn + 1)) rest x next done still e);
    }

failed : (left : ℕ) (rest : List ℕ) (f : Fault) (done : List ℕ) → ends_line rest ≡ false → part_at (says_at (up_to MAX_VARIABLES)) rest ≡ Err f → behind done (numbers_at (suc left) rest) ≡ Err f
unfolding numbers_at
failed left rest f done still e = rw still (rw e refl)

pub numbers_failed : (most : ℕ) (bytes done : List ℕ) (turn : ℕ) (rest : List ℕ) (f : Fault) → NumbersLeft most bytes done turn rest → turn < most → ends_line rest ≡ false → part_at (says_at (up_to MAX_VARIABLES)) rest ≡ Err f → numbers_at most bytes ≡ Err f
numbers_failed most bytes done turn rest f h more still e =
    let now : most - turn ≡ suc (most - (turn + 1)) = omega arith in
    h.same ∙ (ap (λ n. behind done (numbers_at n rest)) now ∙ failed (most - (turn + 1)) rest f done still e)

closes : (done rest : List ℕ) → behind done (ends_at ([], rest)) ≡ ends_at (done, rest)
unfolding ends_at
closes done rest = go (skip_at 10 rest)
  where
    go : (r : Result (List ℕ) Fault) → behind done (r >>= λ end. Ok ([], end)) ≡ (r >>= λ end. Ok (done, end))
    go (Ok end) = ap (λ xs. Ok (xs, end)) (append-nil done)
    go (Err f) = refl

at_end : (left : ℕ) (rest : List ℕ) → ends_line rest ≡ true → numbers_at left rest ≡ ends_at ([], rest)
unfolding numbers_at
at_end zero rest e = refl
at_end (suc left) rest e = rw e refl

none_more : (rest : List ℕ) → numbers_at 0 rest ≡ ends_at ([], rest)
unfolding numbers_at
none_more rest = refl

pub numbers_ended : (most : ℕ) (bytes done : List ℕ) (turn : ℕ) (rest : List ℕ) → NumbersLeft most bytes done turn rest → ends_line rest ≡ true → numbers_at most bytes ≡ ends_at (done, rest)
numbers_ended most bytes done turn rest h e = h.same ∙ (ap (behind done) (at_end (most - turn) rest e) ∙ closes done rest)

pub numbers_last : (most : ℕ) (bytes done : List ℕ) (turn : ℕ) (rest : List ℕ) → NumbersLeft most bytes done turn rest → most ≤ turn → numbers_at most bytes ≡ ends_at (done, rest)
numbers_last most bytes done turn rest h last =
    let now : most - turn ≡ 0 = omega arith in
    h.same ∙ (ap (λ n. behind done (numbers_at n rest)) now ∙ (ap (behind done) (none_more rest) ∙ closes done rest))
