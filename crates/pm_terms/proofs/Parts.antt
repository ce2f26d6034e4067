-- Reading parts one after another, in a loop.
use Rattle.std.proofs.Common.{◌≡◌, ℕ, zero, suc, ◌<◌, ◌≤◌, ◌+◌, ◌-◌, Bool, true, false, List, [], ◌∷◌, ◌++◌, drop, length, refl, sym, ◌∙◌, ap, arith, append_assoc, Ok, Err}
use Rattle.std.proofs.lemmas.List.{length-map}
use Rattle.pm_tokens.specs.declared.symbol.Symbol.TheVariants as s
use Rattle.pm_tokens.specs.declared.token.Placed.{Placed}
use Rattle.pm_tokens.specs.Tokens.{Place, place_of, places}
use Rattle.pm_terms.specs.declared.fault.TextFault.{TextFault}
use Rattle.pm_terms.specs.Steps.{Read, ◌>>=◌, sees, parts, many, with_commas}

-- what is read with these parts before it
abbrev pub after : {A : Type 0} → List A → Read (List A) → Read (List A)
after done (Ok xs) = Ok (done ++ xs.0, xs.1)
after done (Err f) = Err f

-- of all that is read these parts are done, and of so many turns so many are behind
pub record PartsLeft {A : Type 0} (goes_on : List Place → Bool) (part : List Place → Read A) (all : Read (List A)) (count : ℕ) (done : List A) (turn : ℕ) (rest : List Place) : Type 0 where
  pub within : turn ≤ count
  pub same : all ≡ after done (parts (count - turn) goes_on part rest)

none_left : {A : Type 0} (done : List A) → done ++ [] ≡ done
none_left [] = refl
none_left (x ∷ done) = ap (λ xs. x ∷ xs) (none_left done)

with_commas_at : {A : Type 0} (part : List Place → Read A) (ts : List Place) (x : A) (rest : List Place) → part ts ≡ Ok (x, rest) → PartsLeft (sees s.Comma) (λ us. part (drop 1 us)) (with_commas part ts) (length rest) (x ∷ []) 0 rest
unfolding with_commas many
with_commas_at {A} part ts x rest e =
    let all : length rest - 0 ≡ length rest = omega arith in
    record { within = omega arith; same = rw e (go (parts (length rest) (sees s.Comma) (λ us. part (drop 1 us)) rest)) ∙ ap (λ n. after (x ∷ []) (parts n (sees s.Comma) (λ us. part (drop 1 us)) rest)) (sym all) }
  where
    go : (r : Read (List A)) → (r >>= λ xs. Ok (x ∷ xs.0, xs.1)) ≡ after (x ∷ []) r
    go (Ok xs) = refl
    go (Err f) = refl

pub with_commas_begun : {A : Type 0} (part : List Place → Read A) (ts : List Place) (x : A) (rest : List Placed) (done : List A) → part ts ≡ Ok (x, places rest) → done ≡ x ∷ []
    → PartsLeft (sees s.Comma) (λ us. part (drop 1 us)) (with_commas part ts) (length rest) done 0 (places rest)
with_commas_begun part ts x rest done e one = rw (one, sym (length-map rest place_of)) (with_commas_at part ts x (places rest) e)

pub with_commas_failed : {A : Type 0} (part : List Place → Read A) (ts : List Place) (f : TextFault) → part ts ≡ Err f → with_commas part ts ≡ Err f
unfolding with_commas
with_commas_failed part ts f e = rw e refl

one_more : {A : Type 0} (goes_on : List Place → Bool) (part : List Place → Read A) (left : ℕ) (rest : List Place) (x : A) (next : List Place) (done : List A) → goes_on rest ≡ true → part rest ≡ Ok (x, next)
    → after done (parts (suc left) goes_on part rest) ≡ after (done ++ x ∷ []) (parts left goes_on part next)
unfolding parts
one_more {A} goes_on part left rest x next done on e = rw (on, e) (go (parts left goes_on part next))
  where
    go : (r : Read (List A)) → after done (r >>= λ xs. Ok (x ∷ xs.0, xs.1)) ≡ after (done ++ x ∷ []) r
    go (Ok xs) = ap (λ ys. Ok (ys, xs.1)) (sym (append_assoc done (x ∷ []) xs.0))
    go (Err f) = refl

pub turned : {A : Type 0} (goes_on : List Place → Bool) (part : List Place → Read A) (all : Read (List A)) (count : ℕ) (done : List A) (turn : ℕ) (rest : List Place) (x : A) (next : List Place)
    → PartsLeft goes_on part all count done turn rest → turn < count → goes_on rest ≡ true → part rest ≡ Ok (x, next) → PartsLeft goes_on part all count (done ++ x ∷ []) (turn + 1) next
turned goes_on part all count done turn rest x next h more on e =
    let now : count - turn ≡ suc (count - (turn + 1)) = omega arith in
    record {
      within = omega arith;
      same = h.same ∙ (ap (λ n. after done (parts n goes_on part rest)) now ∙ one_more goes_on part (count - (turn + 1)) rest x next done on e);
    }

failing : {A : Type 0} (goes_on : List Place → Bool) (part : List Place → Read A) (left : ℕ) (rest : List Place) (f : TextFault) (done : List A) → goes_on rest ≡ true → part rest ≡ Err f → after done (parts (suc left) goes_on part rest) ≡ Err f
unfolding parts
failing goes_on part left rest f done on e = rw (on, e) refl

pub failed : {A : Type 0} (goes_on : List Place → Bool) (part : List Place → Read A) (all : Read (List A)) (count : ℕ) (done : List A) (turn : ℕ) (rest : List Place) (f : TextFault)
    → PartsLeft goes_on part all count done turn rest → turn < count → goes_on rest ≡ true → part rest ≡ Err f → all ≡ Err f
failed goes_on part all count done turn rest f h more on e =
    let now : count - turn ≡ suc (count - (turn + 1)) = omega arith in
    h.same ∙ (ap (λ n. after done (parts n goes_on part rest)) now ∙ failing goes_on part (count - (turn + 1)) rest f done on e)

stopping : {A : Type 0} (goes_on : List Place → Bool) (part : List Place → Read A) (left : ℕ) (rest : List Place) (done : List A) → goes_on rest ≡ false → after done (parts left goes_on part rest) ≡ Ok (done, rest)
unfolding parts
stopping goes_on part zero rest done off = ap (λ xs. Ok (xs, rest)) (none_left done)
stopping goes_on part (suc left) rest done off = rw off (ap (λ xs. Ok (xs, rest)) (none_left done))

pub stopped : {A : Type 0} (goes_on : List Place → Bool) (part : List Place → Read A) (all : Read (List A)) (count : ℕ) (done : List A) (turn : ℕ) (rest : List Place)
    → PartsLeft goes_on part all count done turn rest → goes_on rest ≡ false → all ≡ Ok (done, rest)
stopped goes_on part all count done turn rest h off = h.same ∙ stopping goes_on part (count - turn) rest done off

pub ended : {A : Type 0} (goes_on : List Place → Bool) (part : List Place → Read A) (all : Read (List A)) (count : ℕ) (done : List A) (turn : ℕ) (rest : List Place)
    → PartsLeft goes_on part all count done turn rest → count ≤ turn → all ≡ Ok (done, rest)
unfolding parts
ended goes_on part all count done turn rest h last =
    let now : count - turn ≡ 0 = omega arith in
    h.same ∙ (ap (λ n. after done (parts n goes_on part rest)) now ∙ ap (λ xs. Ok (xs, rest)) (none_left done))
