-- Reading parts one after another, by halves.
use Rattle.std.proofs.Common.{◌≡◌, ℕ, zero, suc, ◌≤◌, ◌+◌, ◌-◌, Bool, true, false, List, [], ◌∷◌, ◌++◌, refl, sym, ◌∙◌, ap, arith, append_assoc, Ok, Err}
use Rattle.pm_tokens.specs.Tokens.{Place}
use Rattle.pm_terms.specs.declared.fault.TextFault.{TextFault}
use Rattle.pm_terms.specs.Steps.{Read, ◌>>=◌, made, parts}
use Rattle.pm_patterns.specs.PatternReading.{behind, once}

none_behind : {A : Type 0} (done : List A) → done ++ [] ≡ done
none_behind [] = refl
none_behind (x ∷ done) = ap (λ xs. x ∷ xs) (none_behind done)

pub used_up : {A : Type 0} (goes_on : List Place → Bool) (part : List Place → Read A) (done : List A) (most : ℕ) (ts : List Place) → most ≡ 0 → behind done (parts most goes_on part ts) ≡ Ok (done, ts)
unfolding parts
used_up goes_on part done most ts e = rw e (ap (λ xs. Ok (xs, ts)) (none_behind done))

none_more : {A : Type 0} (goes_on : List Place → Bool) (part : List Place → Read A) (most : ℕ) (ts : List Place) → goes_on ts ≡ false → parts most goes_on part ts ≡ Ok ([], ts)
unfolding parts
none_more goes_on part zero ts e = refl
none_more goes_on part (suc most) ts e = rw e refl

pub stopped : {A : Type 0} (goes_on : List Place → Bool) (part : List Place → Read A) (done : List A) (most : ℕ) (ts : List Place) → goes_on ts ≡ false → behind done (parts most goes_on part ts) ≡ Ok (done, ts)
stopped goes_on part done most ts e = ap (behind done) (none_more goes_on part most ts e) ∙ ap (λ xs. Ok (xs, ts)) (none_behind done)

pub single : {A : Type 0} (goes_on : List Place → Bool) (part : List Place → Read A) (done : List A) (most : ℕ) (ts : List Place) → most ≡ 1 → goes_on ts ≡ true → behind done (parts most goes_on part ts) ≡ behind done (once part ts)
unfolding parts
single goes_on part done most ts one e = rw one (rw e refl)

-- so many parts, and so many more
both : {A : Type 0} (goes_on : List Place → Bool) (part : List Place → Read A) (a b : ℕ) (ts : List Place) → parts (a + b) goes_on part ts ≡ (parts a goes_on part ts >>= λ x. behind x.0 (parts b goes_on part x.1))
unfolding parts
both {A} goes_on part zero b ts = let none : zero + b ≡ b = omega arith in rw none (go (parts b goes_on part ts))
  where
    go : (r : Read (List A)) → r ≡ behind [] r
    go (Ok xs) = refl
    go (Err f) = refl
both {A} goes_on part (suc a) b ts = let more : suc a + b ≡ suc (a + b) = omega arith in rw more (by (both goes_on part a b) (goes_on ts) refl)
  where
    first : (x : A) (ys : List A) (r : Read (List A)) → made (λ zs. x ∷ zs) (behind ys r) ≡ behind (x ∷ ys) r
    first x ys (Ok zs) = refl
    first x ys (Err f) = refl

    under : (x : A) (r : Read (List A)) → made (λ zs. x ∷ zs) (r >>= λ ys. behind ys.0 (parts b goes_on part ys.1)) ≡ (made (λ ys. x ∷ ys) r >>= λ zs. behind zs.0 (parts b goes_on part zs.1))
    under x (Ok ys) = first x ys.0 (parts b goes_on part ys.1)
    under x (Err f) = refl

    on : ((us : List Place) → parts (a + b) goes_on part us ≡ (parts a goes_on part us >>= λ x. behind x.0 (parts b goes_on part x.1))) → (r : Read A)
        → (r >>= λ x. made (λ xs. x.0 ∷ xs) (parts (a + b) goes_on part x.1)) ≡ ((r >>= λ x. made (λ xs. x.0 ∷ xs) (parts a goes_on part x.1)) >>= λ x. behind x.0 (parts b goes_on part x.1))
    on same (Ok x) = rw (same x.1) (under x.0 (parts a goes_on part x.1))
    on same (Err f) = refl

    by : ((us : List Place) → parts (a + b) goes_on part us ≡ (parts a goes_on part us >>= λ x. behind x.0 (parts b goes_on part x.1))) → (go : Bool) → goes_on ts ≡ go
        → parts (suc (a + b)) goes_on part ts ≡ (parts (suc a) goes_on part ts >>= λ x. behind x.0 (parts b goes_on part x.1))
    by same true e = rw e (on same (part ts))
    by same false e = rw e (sym (stopped goes_on part [] b ts e))

-- items behind others that are behind others
pub again : {A : Type 0} (done : List A) (x : A) (r : Read (List A)) → behind done (behind (x ∷ []) r) ≡ behind (done ++ x ∷ []) r
again done x (Ok ys) = ap (λ zs. Ok (zs, ys.1)) (sym (append_assoc done (x ∷ []) ys.0))
again done x (Err f) = refl

joined : {A : Type 0} (goes_on : List Place → Bool) (part : List Place → Read A) (done : List A) (b : ℕ) (r : Read (List A)) → behind done (r >>= λ x. behind x.0 (parts b goes_on part x.1)) ≡ (behind done r >>= λ x. behind x.0 (parts b goes_on part x.1))
joined {A} goes_on part done b (Ok x) = go (parts b goes_on part x.1)
  where
    go : (r : Read (List A)) → behind done (behind x.0 r) ≡ behind (done ++ x.0) r
    go (Ok ys) = ap (λ zs. Ok (zs, ys.1)) (sym (append_assoc done x.0 ys.0))
    go (Err f) = refl
joined goes_on part done b (Err f) = refl

-- some of the parts, and then the others
pub halved : {A : Type 0} (goes_on : List Place → Bool) (part : List Place → Read A) (done : List A) (most half : ℕ) (ts : List Place) → half ≤ most
    → behind done (parts most goes_on part ts) ≡ (behind done (parts half goes_on part ts) >>= λ x. behind x.0 (parts (most - half) goes_on part x.1))
halved goes_on part done most half ts h =
    let all : most ≡ half + (most - half) = omega arith in
    ap (λ n. behind done (parts n goes_on part ts)) all ∙ (ap (behind done) (both goes_on part half (most - half) ts) ∙ joined goes_on part done (most - half) (parts half goes_on part ts))

pub halved_ok : {A : Type 0} (goes_on : List Place → Bool) (part : List Place → Read A) (done : List A) (most half : ℕ) (ts : List Place) (found : List A) (rest : List Place) → half ≤ most
    → behind done (parts half goes_on part ts) ≡ Ok (found, rest) → behind done (parts most goes_on part ts) ≡ behind found (parts (most - half) goes_on part rest)
halved_ok goes_on part done most half ts found rest h e = rw (halved goes_on part done most half ts h) (rw e refl)

pub halved_err : {A : Type 0} (goes_on : List Place → Bool) (part : List Place → Read A) (done : List A) (most half : ℕ) (ts : List Place) (f : TextFault) → half ≤ most
    → behind done (parts half goes_on part ts) ≡ Err f → behind done (parts most goes_on part ts) ≡ Err f
halved_err goes_on part done most half ts f h e = rw (halved goes_on part done most half ts h) (rw e refl)
