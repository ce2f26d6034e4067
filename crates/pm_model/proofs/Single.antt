-- A resource of one location, and a location that a resource lacks.
use Rattle.std.proofs.Common.{◌≡◌, ◌+◌, suc, ℤ, pos, nat_abs, refl, sym, ap, ◌∙◌, subst, le_refl, arith}
use lib.IntN.{ℤ_discrete}
use Rattle.pm_model.specs.Resource.{Content, Empty, IsValid, Res, Compatible, Joins, plus}
use Rattle.pm_model.proofs.Joins.{compatible_empty, joined}

content_if : {P : Type 0} → Dec P → Content → Content
content_if (yes p) c = c
content_if (no n) c = Empty

content_if_yes : {P : Type 0} (d : Dec P) (c : Content) → P → content_if d c ≡ c
unfolding content_if
content_if_yes (yes p) c h = refl
content_if_yes (no n) c h = absurd (n h)

content_if_no : {P : Type 0} (d : Dec P) (c : Content) → ¬ P → content_if d c ≡ Empty
unfolding content_if
content_if_no (yes p) c h = absurd (h p)
content_if_no (no n) c h = refl

content_if_valid : {P : Type 0} (d : Dec P) (c : Content) → IsValid c → IsValid (content_if d c)
unfolding content_if
content_if_valid (yes p) c h = h
content_if_valid (no n) c h = tt

pub single : (l : ℤ) (c : Content) → IsValid c → Res
single l c h = record {
  at = λ x. content_if (ℤ_discrete x l) c;
  valid = λ x. content_if_valid (ℤ_discrete x l) c h;
  bound = suc (nat_abs l);
  beyond = λ x k. content_if_no (ℤ_discrete x l) c (λ e. let f : nat_abs x ≡ nat_abs l = ap nat_abs e in omega arith);
}

pub single_at : (l : ℤ) (c : Content) (h : IsValid c) → (single l c h).at l ≡ c
unfolding single
single_at l c h = content_if_yes (ℤ_discrete l l) c refl

empty_fits : {P : Type 0} (d : Dec P) (a c : Content) → (P → a ≡ Empty) → Compatible a (content_if d c)
unfolding content_if
empty_fits (yes p) a c h = subst (λ x. Compatible x c) (sym (h p)) tt
empty_fits (no n) a c h = compatible_empty a

-- what stands at a location that f lacks joins f
pub single_joins : (f : Res) (l : ℤ) (c : Content) (h : IsValid c) → f.at l ≡ Empty → (d : Res) × Joins f (single l c h) d
unfolding single
single_joins f l c h e =
    joined f (single l c h) (λ x. empty_fits (ℤ_discrete x l) (f.at x) c (λ p. subst (λ y. f.at y ≡ Empty) (sym p) e))

-- there always is one
pub fresh_at : (f : Res) → f.at (pos f.bound) ≡ Empty
fresh_at f = f.beyond (pos f.bound) (le_refl f.bound)

-- the same but at one location
content_or : {P : Type 0} → Dec P → Content → Content → Content
content_or (yes p) c d = c
content_or (no n) c d = d

content_or_valid : {P : Type 0} (d : Dec P) (a b : Content) → IsValid a → IsValid b → IsValid (content_or d a b)
unfolding content_or
content_or_valid (yes p) a b h k = h
content_or_valid (no n) a b h k = k

content_or_no : {P : Type 0} (d : Dec P) (a b : Content) → ¬ P → b ≡ Empty → content_or d a b ≡ Empty
unfolding content_or
content_or_no (yes p) a b h e = absurd (h p)
content_or_no (no n) a b h e = e

content_or_yes : {P : Type 0} (d : Dec P) (a b : Content) → P → content_or d a b ≡ a
unfolding content_or
content_or_yes (yes p) a b h = refl
content_or_yes (no n) a b h = absurd (n h)

pub put : (r : Res) (l : ℤ) (c : Content) → IsValid c → Res
put r l c h = record {
  at = λ x. content_or (ℤ_discrete x l) c (r.at x);
  valid = λ x. content_or_valid (ℤ_discrete x l) c (r.at x) h (r.valid x);
  bound = r.bound + suc (nat_abs l);
  beyond = λ x k. content_or_no (ℤ_discrete x l) c (r.at x) (λ e. let f : nat_abs x ≡ nat_abs l = ap nat_abs e in omega arith) (r.beyond x (omega arith));
}

pub put_at : (r : Res) (l : ℤ) (c : Content) (h : IsValid c) → (put r l c h).at l ≡ c
unfolding put
put_at r l c h = content_or_yes (ℤ_discrete l l) c (r.at l) refl

two_fit : {P : Type 0} (d : Dec P) (a b c : Content) → Compatible a b → Compatible (content_if d a) (content_or d b c)
unfolding content_if content_or
two_fit (yes p) a b c h = h
two_fit (no n) a b c h = tt

two_sum : {P : Type 0} (d : Dec P) (a b c : Content) → (P → c ≡ plus a b) → c ≡ plus (content_if d a) (content_or d b c)
unfolding content_if content_or
two_sum (yes p) a b c h = h p
two_sum (no n) a b c h = refl

-- what stands at l is a and b: the resource is a alone and the rest with b
pub split_at : (r : Res) (l : ℤ) (a b : Content) (va : IsValid a) (vb : IsValid b) → Compatible a b → r.at l ≡ plus a b → Joins (single l a va) (put r l b vb) r
unfolding single put
split_at r l a b va vb fit e = record {
  fits = λ x. two_fit (ℤ_discrete x l) a b (r.at x) fit;
  sums = λ x. two_sum (ℤ_discrete x l) a b (r.at x) (λ p. ap (λ y. r.at y) p ∙ e);
}
