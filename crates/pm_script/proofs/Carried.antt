-- Steps one after another, by halves.
use Rattle.std.proofs.Common.{◌≡◌, ℕ, zero, suc, ◌≤◌, ◌+◌, ◌-◌, Bool, true, false, List, [], ◌∷◌, length, refl, sym, ◌∙◌, ap, arith, Ok, Err}
use Rattle.pm_tokens.specs.declared.token.Placed.{Placed}
use Rattle.pm_tokens.specs.Tokens.{Place, places}
use Rattle.pm_terms.specs.declared.fault.TextFault.{TextFault}
use Rattle.pm_terms.specs.Steps.{Read, ◌>>=◌}
use Rattle.pm_script.specs.SentenceReading.{carried}

pub length_places : (ps : List Placed) → length (places ps) ≡ length ps
length_places [] = refl
length_places (p ∷ ps) = ap suc (length_places ps)

pub none_left : {S : Type 0} (goes_on : List Place → Bool) (step : S → List Place → Read S) (most : ℕ) (found : S) (ts : List Place) → most ≡ 0 → carried goes_on step most found ts ≡ Ok (found, ts)
unfolding carried
none_left goes_on step most found ts e = rw e refl

pub stopped : {S : Type 0} (goes_on : List Place → Bool) (step : S → List Place → Read S) (most : ℕ) (found : S) (ts : List Place) → goes_on ts ≡ false → carried goes_on step most found ts ≡ Ok (found, ts)
unfolding carried
stopped goes_on step zero found ts e = refl
stopped goes_on step (suc most) found ts e = rw e refl

last : {S : Type 0} (r : Read S) → (r >>= λ x. Ok (x.0, x.1)) ≡ r
last (Ok x) = refl
last (Err f) = refl

pub single : {S : Type 0} (goes_on : List Place → Bool) (step : S → List Place → Read S) (most : ℕ) (found : S) (ts : List Place) → most ≡ 1 → goes_on ts ≡ true → carried goes_on step most found ts ≡ step found ts
unfolding carried
single goes_on step most found ts one e = rw one (rw e (last (step found ts)))

both : {S : Type 0} (goes_on : List Place → Bool) (step : S → List Place → Read S) (a b : ℕ) (found : S) (ts : List Place)
    → carried goes_on step (a + b) found ts ≡ (carried goes_on step a found ts >>= λ x. carried goes_on step b x.0 x.1)
unfolding carried
both goes_on step zero b found ts = let none : zero + b ≡ b = omega arith in rw none refl
both {S} goes_on step (suc a) b found ts = let more : suc a + b ≡ suc (a + b) = omega arith in rw more (by (both goes_on step a b) (goes_on ts) refl)
  where
    on : ((s : S) (us : List Place) → carried goes_on step (a + b) s us ≡ (carried goes_on step a s us >>= λ x. carried goes_on step b x.0 x.1)) → (r : Read S)
        → (r >>= λ x. carried goes_on step (a + b) x.0 x.1) ≡ ((r >>= λ x. carried goes_on step a x.0 x.1) >>= λ x. carried goes_on step b x.0 x.1)
    on same (Ok x) = same x.0 x.1
    on same (Err f) = refl

    by : ((s : S) (us : List Place) → carried goes_on step (a + b) s us ≡ (carried goes_on step a s us >>= λ x. carried goes_on step b x.0 x.1)) → (go : Bool) → goes_on ts ≡ go
        → carried goes_on step (suc (a + b)) found ts ≡ (carried goes_on step (suc a) found ts >>= λ x. carried goes_on step b x.0 x.1)
    by same true e = rw e (on same (step found ts))
    by same false e = rw e (sym (stopped goes_on step b found ts e))

halved : {S : Type 0} (goes_on : List Place → Bool) (step : S → List Place → Read S) (most half : ℕ) (found : S) (ts : List Place) → half ≤ most
    → carried goes_on step most found ts ≡ (carried goes_on step half found ts >>= λ x. carried goes_on step (most - half) x.0 x.1)
halved goes_on step most half found ts h =
    let all : most ≡ half + (most - half) = omega arith in
    ap (λ n. carried goes_on step n found ts) all ∙ both goes_on step half (most - half) found ts

pub halved_ok : {S : Type 0} (goes_on : List Place → Bool) (step : S → List Place → Read S) (most half : ℕ) (found : S) (ts : List Place) (more : S) (rest : List Place) → half ≤ most
    → carried goes_on step half found ts ≡ Ok (more, rest) → carried goes_on step most found ts ≡ carried goes_on step (most - half) more rest
halved_ok goes_on step most half found ts more rest h e = rw (halved goes_on step most half found ts h) (rw e refl)

pub halved_err : {S : Type 0} (goes_on : List Place → Bool) (step : S → List Place → Read S) (most half : ℕ) (found : S) (ts : List Place) (f : TextFault) → half ≤ most
    → carried goes_on step half found ts ≡ Err f → carried goes_on step most found ts ≡ Err f
halved_err goes_on step most half found ts f h e = rw (halved goes_on step most half found ts h) (rw e refl)
