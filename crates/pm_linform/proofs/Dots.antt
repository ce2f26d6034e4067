-- Sums of coefficients times values, and the values of forms.
use Rattle.std.proofs.Common.{◌≡◌, ◌≢◌, ℕ, zero, suc, List, [], ◌∷◌, ℤ, pos, ◌+ℤ◌, ◌*ℤ◌, neg_ℤ, refl, ap, ap₂, sym, ◌∙◌, arith}
use Rattle.std.proofs.lemmas.Int.{ints}
use Rattle.pm_linform.specs.declared.Form.{Form}
use Rattle.pm_linform.specs.Entries.{coefficient}
use Rattle.pm_linform.specs.Sums.{IsZero, AddsVariable, AddsConstant, AddsScaled, IsPositiveConstant}
use Rattle.pm_linform.specs.Values.{entry, dot, value, SumsAreExact}
use Rattle.pm_linform.proofs.Products.{distributes, distributes_left, neg_left, zero_times, times_zero, times_assoc}

-- equal coefficients give equal sums
pub dot_same : (c d : ℕ → ℤ) (env : List ℤ) → ((i : ℕ) → c i ≡ d i) → dot c env ≡ dot d env
dot_same c d [] h = refl
dot_same c d (z ∷ env) h = ap₂ (λ x y. (x *ℤ z) +ℤ y) (h 0) (dot_same (λ i. c (suc i)) (λ i. d (suc i)) env (λ i. h (suc i)))

pub dot_none : (c : ℕ → ℤ) (env : List ℤ) → ((i : ℕ) → c i ≡ pos 0) → dot c env ≡ pos 0
dot_none c [] h = refl
dot_none c (z ∷ env) h =
    let a : c 0 *ℤ z ≡ pos 0 = ap (λ y. y *ℤ z) (h 0) ∙ zero_times z in
    let b = dot_none (λ i. c (suc i)) env (λ i. h (suc i)) in
    omega (arith, ints)

pub dot_add : (c d : ℕ → ℤ) (env : List ℤ) → dot (λ i. c i +ℤ d i) env ≡ dot c env +ℤ dot d env
dot_add c d [] = refl
dot_add c d (z ∷ env) =
    let a = distributes_left (c 0) (d 0) z in
    let b = dot_add (λ i. c (suc i)) (λ i. d (suc i)) env in
    omega (arith, ints)

pub dot_scale : (k : ℤ) (c : ℕ → ℤ) (env : List ℤ) → dot (λ i. k *ℤ c i) env ≡ k *ℤ dot c env
dot_scale k c [] = sym (times_zero k)
dot_scale k c (z ∷ env) =
    let a = times_assoc k (c 0) z in
    let b = dot_scale k (λ i. c (suc i)) env in
    let d = distributes k (c 0 *ℤ z) (dot (λ i. c (suc i)) env) in
    omega (arith, ints)

pub dot_neg : (c : ℕ → ℤ) (env : List ℤ) → dot (λ i. neg_ℤ (c i)) env ≡ neg_ℤ (dot c env)
dot_neg c [] = refl
dot_neg c (z ∷ env) =
    let a = neg_left (c 0) z in
    let b = dot_neg (λ i. c (suc i)) env in
    omega (arith, ints)

-- one coefficient more
pub dot_one : (c d : ℕ → ℤ) (i : ℕ) (k : ℤ) (env : List ℤ) → d i ≡ c i +ℤ k → ((j : ℕ) → j ≢ i → d j ≡ c j) → dot d env ≡ dot c env +ℤ (k *ℤ entry env i)
dot_one c d i k [] e h = let a = times_zero k in omega (arith, ints)
dot_one c d zero k (z ∷ env) e h =
    let a : d 0 *ℤ z ≡ (c 0 +ℤ k) *ℤ z = ap (λ y. y *ℤ z) e in
    let b = distributes_left (c 0) k z in
    let s = dot_same (λ i. d (suc i)) (λ i. c (suc i)) env (λ i. h (suc i) (λ f. omega arith)) in
    omega (arith, ints)
dot_one c d (suc i) k (z ∷ env) e h =
    let a : d 0 *ℤ z ≡ c 0 *ℤ z = ap (λ y. y *ℤ z) (h 0 (λ f. omega arith)) in
    let b = dot_one (λ i. c (suc i)) (λ i. d (suc i)) i k env e (λ j ne. h (suc j) (λ f. ne (omega arith))) in
    omega (arith, ints)

zero_is : (env : List ℤ) (f : Form) → IsZero f → value env f ≡ pos 0
zero_is env f h = let a = dot_none (coefficient f) env h.coefficients in let b = h.constant in omega (arith, ints)

variable_is : (env : List ℤ) (i : ℕ) (c : ℤ) (old new : Form) → AddsVariable i c old new → value env new ≡ value env old +ℤ (c *ℤ entry env i)
variable_is env i c old new h =
    let a = dot_one (coefficient old) (coefficient new) i c env h.coefficient_is h.others in
    let b = h.constant in
    omega (arith, ints)

constant_is : (env : List ℤ) (c : ℤ) (old new : Form) → AddsConstant c old new → value env new ≡ value env old +ℤ c
constant_is env c old new h =
    let a = dot_same (coefficient new) (coefficient old) env h.coefficients in
    let b = h.constant in
    omega (arith, ints)

scaled_is : (env : List ℤ) (c : ℤ) (other old new : Form) → AddsScaled c other old new → value env new ≡ value env old +ℤ (c *ℤ value env other)
scaled_is env c other old new h =
    let a = dot_same (coefficient new) (λ i. coefficient old i +ℤ (c *ℤ coefficient other i)) env h.coefficients in
    let b = dot_add (coefficient old) (λ i. c *ℤ coefficient other i) env in
    let d = dot_scale c (coefficient other) env in
    let e = distributes c (dot (coefficient other) env) other.constant in
    let k = h.constant in
    omega (arith, ints)

positive_is : (env : List ℤ) (f : Form) → IsPositiveConstant f → value env f ≡ f.constant
positive_is env f h = let a = dot_none (coefficient f) env h.coefficients in omega (arith, ints)

pub sums : SumsAreExact
sums = record {
  zero_is = zero_is;
  variable_is = variable_is;
  constant_is = constant_is;
  scaled_is = scaled_is;
  positive_is = positive_is;
}
