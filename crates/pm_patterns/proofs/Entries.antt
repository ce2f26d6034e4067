-- Reading the entries of a certificate, by halves.
use Rattle.std.proofs.Common.{◌≡◌, ℕ, zero, suc, ◌≤◌, ◌+◌, ◌-◌, Bool, true, false, List, refl, sym, ◌∙◌, ap, arith, Ok, Err}
use Rattle.pm_tokens.specs.declared.symbol.Symbol.TheVariants.{Quote}
use Rattle.pm_tokens.specs.Tokens.{Place}
use Rattle.pm_terms.specs.declared.fault.TextFault.{TextFault}
use Rattle.pm_terms.specs.Steps.{Read, ◌>>=◌, sees}
use Rattle.pm_patterns.specs.declared.certificates.Found.{Found}
use Rattle.pm_patterns.specs.PatternReading.{entry_in, entries_in}

pub none_left : (stop most : ℕ) (f : Found) (ts : List Place) → most ≡ 0 → entries_in stop most f ts ≡ Ok (f, ts)
unfolding entries_in
none_left stop most f ts e = rw e refl

pub at_quote : (stop most : ℕ) (f : Found) (ts : List Place) → sees Quote ts ≡ true → entries_in stop most f ts ≡ Ok (f, ts)
unfolding entries_in
at_quote stop zero f ts e = refl
at_quote stop (suc most) f ts e = rw e refl

last : (r : Read Found) → (r >>= λ g. Ok (g.0, g.1)) ≡ r
last (Ok g) = refl
last (Err e) = refl

pub one_entry : (stop most : ℕ) (f : Found) (ts : List Place) → most ≡ 1 → sees Quote ts ≡ false → entries_in stop most f ts ≡ entry_in stop f ts
unfolding entries_in
one_entry stop most f ts one e = rw one (rw e (last (entry_in stop f ts)))

both : (stop a b : ℕ) (f : Found) (ts : List Place) → entries_in stop (a + b) f ts ≡ (entries_in stop a f ts >>= λ g. entries_in stop b g.0 g.1)
unfolding entries_in
both stop zero b f ts = let none : zero + b ≡ b = omega arith in rw none refl
both stop (suc a) b f ts = let more : suc a + b ≡ suc (a + b) = omega arith in rw more (by (both stop a b) (sees Quote ts) refl)
  where
    on : ((g : Found) (us : List Place) → entries_in stop (a + b) g us ≡ (entries_in stop a g us >>= λ h. entries_in stop b h.0 h.1)) → (r : Read Found)
        → (r >>= λ g. entries_in stop (a + b) g.0 g.1) ≡ ((r >>= λ g. entries_in stop a g.0 g.1) >>= λ g. entries_in stop b g.0 g.1)
    on same (Ok g) = same g.0 g.1
    on same (Err e) = refl

    by : ((g : Found) (us : List Place) → entries_in stop (a + b) g us ≡ (entries_in stop a g us >>= λ h. entries_in stop b h.0 h.1)) → (q : Bool) → sees Quote ts ≡ q
        → entries_in stop (suc (a + b)) f ts ≡ (entries_in stop (suc a) f ts >>= λ g. entries_in stop b g.0 g.1)
    by same true e = rw e (sym (at_quote stop b f ts e))
    by same false e = rw e (on same (entry_in stop f ts))

halved : (stop most half : ℕ) (f : Found) (ts : List Place) → half ≤ most → entries_in stop most f ts ≡ (entries_in stop half f ts >>= λ g. entries_in stop (most - half) g.0 g.1)
halved stop most half f ts h =
    let all : most ≡ half + (most - half) = omega arith in
    ap (λ n. entries_in stop n f ts) all ∙ both stop half (most - half) f ts

pub halved_ok : (stop most half : ℕ) (f : Found) (ts : List Place) (g : Found) (rest : List Place) → half ≤ most → entries_in stop half f ts ≡ Ok (g, rest) → entries_in stop most f ts ≡ entries_in stop (most - half) g rest
halved_ok stop most half f ts g rest h e = rw (halved stop most half f ts h) (rw e refl)

pub halved_err : (stop most half : ℕ) (f : Found) (ts : List Place) (fault : TextFault) → half ≤ most → entries_in stop half f ts ≡ Err fault → entries_in stop most f ts ≡ Err fault
halved_err stop most half f ts fault h e = rw (halved stop most half f ts h) (rw e refl)
