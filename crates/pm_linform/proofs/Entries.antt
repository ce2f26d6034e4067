-- What the calls' proofs need of entries.
use Rattle.std.proofs.Common.{◌≡◌, ℕ, zero, suc, ◌+◌, ◌<◌, ◌≤◌, List, [], ◌∷◌, length, replicate, ℤ, pos, ◌+ℤ◌, ◌*ℤ◌, ◌≤ℤ◌, slice_index_or, slice_set, arith, ◌⊎◌, inl, inr, to_z, of_z, FitsSigned, w64, refl, subst, sym, ◌∙◌, ap, ap₂, IsTrue, ◌↔◌, EachIndex, Bool}
use Rattle.std.proofs.lemmas.List.{get_or_past, get_or-set_other, get_or-set_same}
use Rattle.std.proofs.lemmas.Bool.{cases_lt}
use mir.Syntax.{w128}
use Rattle.std.proofs.lemmas.Int.{ints, to_z-of_z}
use Rattle.pm_linform.specs.declared.Form.{Form}
use Rattle.pm_linform.proofs.Products.{times_zero}
use Rattle.pm_linform.specs.Entries.{IsAtMost, IsWithin, room}

pub ruleset seen = (ints, to_z-of_z)

-- the entries of a list of zeros
pub replicate_entry : (n i : ℕ) → slice_index_or (replicate n (pos 0)) i (pos 0) ≡ pos 0
replicate_entry zero i = refl
replicate_entry (suc n) zero = refl
replicate_entry (suc n) (suc i) = replicate_entry n i

-- what is true of each entry and of 0 is true of all coefficients
pub past_entries : (bound : ℤ) (xs : List ℤ) → pos 0 ≤ℤ bound → ((i : ℕ) → i < length xs → IsAtMost bound (slice_index_or xs i (pos 0))) → (i : ℕ) → IsAtMost bound (slice_index_or xs i (pos 0))
past_entries bound [] le h i = record { low = omega (arith, ints); high = le }
past_entries bound (x ∷ xs) le h zero = h zero (omega arith)
past_entries bound (x ∷ xs) le h (suc i) = past_entries bound xs le (λ k lt. h (suc k) (omega arith)) i

-- the coefficients before `upto` have had `c` times those of `added`
pub record Summed (upto : ℕ) (c : ℤ) (was now added : List ℤ) : Type 0 where
  pub done : (k : ℕ) → k < upto → slice_index_or now k (pos 0) ≡ slice_index_or was k (pos 0) +ℤ c *ℤ slice_index_or added k (pos 0)
  pub left : (k : ℕ) → upto ≤ k → slice_index_or now k (pos 0) ≡ slice_index_or was k (pos 0)

-- an entry of such a size, as code reads it
pub room_fits : (x : ℤ) → IsAtMost room x → FitsSigned w128 x
unfolding room
room_fits x h = let a = h.low in let b = h.high in omega (arith, ints)

pub room_seen : (x : ℤ) → IsAtMost room x → IsAtMost room (to_z w128 (of_z w128 x))
room_seen x h = let P : ℤ → Type 0 = λ z. IsAtMost room z in subst P (sym (to_z-of_z w128 x (room_fits x h))) h

pub product_seen : (c x : ℤ) → FitsSigned w64 c → FitsSigned w128 x → to_z w64 (of_z w64 c) *ℤ to_z w128 (of_z w128 x) ≡ c *ℤ x
product_seen c x f g = ap₂ (λ y z. y *ℤ z) (to_z-of_z w64 c f) (to_z-of_z w128 x g)

-- the bound and the entry as code reads them
pub at_most_seen : (b c x y : ℤ) → b ≡ c → x ≡ y → IsAtMost b x → IsAtMost c y
at_most_seen b c x y e f h = let l = h.low in let m = h.high in record { low = omega (arith, ints); high = omega (arith, ints) }

-- what the tests of constant and coefficients say together
pub within_is : (b c k : ℤ) (f : Form) (r : Bool) → b ≡ c → k ≡ f.constant → pos 0 ≤ℤ c → IsAtMost b k → (IsTrue r ↔ EachIndex f.coefficients (λ i. IsAtMost b (slice_index_or f.coefficients i (pos 0)))) → IsTrue r ↔ IsWithin c f
within_is b c k f r e g le h each = (
  (λ t. record {
    coefficients = past_entries c f.coefficients le (λ i lt. at_most_seen b c (slice_index_or f.coefficients i (pos 0)) (slice_index_or f.coefficients i (pos 0)) e refl (each.0 t i lt));
    constant = at_most_seen b c k f.constant e g h;
  }),
  (λ w. each.1 (λ i lt. at_most_seen c b (slice_index_or f.coefficients i (pos 0)) (slice_index_or f.coefficients i (pos 0)) (sym e) refl (w.coefficients i))),
)

-- one entry more
pub summed_step : (i : ℕ) (c : ℤ) (was now added : List ℤ) (x : ℤ) → i < length now → Summed i c was now added → x ≡ slice_index_or now i (pos 0) +ℤ c *ℤ slice_index_or added i (pos 0) → Summed (i + 1) c was (slice_set now i x) added
summed_step i c was now added x lt h e = record {
  done = λ k le. go k (cases_lt k i) le;
  left = λ k le. get_or-set_other now i k x (pos 0) (λ f. omega arith) ∙ h.left k (omega arith);
}
  where
    go : (k : ℕ) → (k < i) ⊎ (i ≤ k) → k < i + 1 → slice_index_or (slice_set now i x) k (pos 0) ≡ slice_index_or was k (pos 0) +ℤ c *ℤ slice_index_or added k (pos 0)
    go k (inl a) le = get_or-set_other now i k x (pos 0) (λ f. omega arith) ∙ h.done k a
    go k (inr a) le =
        let s : i ≡ k = omega arith in
        let P : ℕ → Type 0 = λ j. slice_index_or (slice_set now i x) j (pos 0) ≡ slice_index_or was j (pos 0) +ℤ c *ℤ slice_index_or added j (pos 0) in
        subst P s (get_or-set_same now i x (pos 0) lt ∙ e ∙ ap (λ y. y +ℤ c *ℤ slice_index_or added i (pos 0)) (h.left i (omega arith)))

-- all entries
pub summed_all : (i : ℕ) (c : ℤ) (was now added : List ℤ) → length added ≤ i → Summed i c was now added → (k : ℕ) → slice_index_or now k (pos 0) ≡ slice_index_or was k (pos 0) +ℤ c *ℤ slice_index_or added k (pos 0)
summed_all i c was now added le h k = go (cases_lt k i)
  where
    go : (k < i) ⊎ (i ≤ k) → slice_index_or now k (pos 0) ≡ slice_index_or was k (pos 0) +ℤ c *ℤ slice_index_or added k (pos 0)
    go (inl a) = h.done k a
    go (inr a) =
        let z : c *ℤ slice_index_or added k (pos 0) ≡ pos 0 = ap (λ y. c *ℤ y) (get_or_past added k (pos 0) (omega arith)) ∙ times_zero c in
        let s = h.left k a in
        omega (arith, ints)
