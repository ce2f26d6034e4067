-- Sums of forms of terms, and how large they are.
use Rattle.std.proofs.Common.{◌≡◌, ℕ, ◌^◌, ◌+◌, ◌*◌, ℤ, pos, neg_ℤ, ◌+ℤ◌, ◌-ℤ◌, ◌*ℤ◌, to_z-of_z, SFits, to_z, of_z, w64, Option, None, Some, refl, ap, sym, subst, ◌∙◌, arith}
use Rattle.std.proofs.lemmas.Int.{ints}
use lib.IntN.{*ℤ_comm}
use Rattle.pm_logic.specs.declared.formula.Term.{Term}
use Rattle.pm_linform.specs.declared.Form.{Form}
use Rattle.pm_linform.specs.Entries.{coefficient, room, IsAtMost, IsWithin}
use Rattle.pm_linform.specs.Sums.{AddsConstant, AddsScaled}
use Rattle.pm_linform.proofs.Bounds.{at_most_sum, at_most_product, within_more, within_times, scaled_within}
use Rattle.pm_linform.proofs.Products.{distributes, neg_left, one_times, times_zero}
use Rattle.pm_rules.specs.Linear.{coefficient_of, constant_of, IsSmall, ◌−◌, one_more, number}
use Rattle.pm_rules.specs.Sums.{IsFormOf, FormOf, AddsTerm, DifferenceAdded, StrictAdded, IsRoomy}
use Rattle.pm_rules.proofs.Terms.{small_form, form_within}

-- ---- sums

times_difference : (c x y : ℤ) → c *ℤ (x -ℤ y) ≡ (c *ℤ x) +ℤ (neg_ℤ c *ℤ y)
times_difference c x y =
    let e : x -ℤ y ≡ x +ℤ neg_ℤ y = omega (arith, ints) in
    let back : (x -ℤ y) +ℤ y ≡ x = omega (arith, ints) in
    let d : (c *ℤ (x -ℤ y)) +ℤ (c *ℤ y) ≡ c *ℤ x = sym (distributes c (x -ℤ y) y) ∙ ap (λ z. c *ℤ z) back in
    let n : neg_ℤ c *ℤ y ≡ neg_ℤ (c *ℤ y) = neg_left c y in
    omega (arith, ints)

difference_step : (c old mid new x y u v : ℤ) → mid ≡ old +ℤ (c *ℤ u) → new ≡ mid +ℤ (neg_ℤ c *ℤ v) → u ≡ x → v ≡ y → new ≡ old +ℤ (c *ℤ (x -ℤ y))
difference_step c old mid new x y u v d e f g =
    let p = times_difference c x y in
    let q : c *ℤ u ≡ c *ℤ x = ap (λ z. c *ℤ z) f in
    let r : neg_ℤ c *ℤ v ≡ neg_ℤ c *ℤ y = ap (λ z. neg_ℤ c *ℤ z) g in
    omega (arith, ints)

difference_adds : (c : ℤ) (s t : Term) (f g old mid new : Form) → IsFormOf f s → IsFormOf g t → AddsScaled c f old mid → AddsScaled (neg_ℤ c) g mid new → AddsTerm c (s − t) old new
unfolding coefficient_of constant_of
difference_adds c s t f g old mid new a b h k = record {
  coefficients = λ i. difference_step c (coefficient old i) (coefficient mid i) (coefficient new i) (coefficient_of s i) (coefficient_of t i) (coefficient f i) (coefficient g i) (h.coefficients i) (k.coefficients i) (a.coefficients i) (b.coefficients i);
  constant = difference_step c old.constant mid.constant new.constant (constant_of s) (constant_of t) f.constant g.constant h.constant k.constant a.constant b.constant;
}

pub difference_added : (c : ℤ) (s t : Term) (f g old mid new : Form) → FormOf s (Some f) → FormOf t (Some g) → AddsScaled c f old mid → AddsScaled (neg_ℤ c) g mid new → DifferenceAdded c s t old (Some new)
unfolding FormOf DifferenceAdded
difference_added c s t f g old mid new a b h k = ((a.small, b.small), difference_adds c s t f g old mid new a.is b.is h k)

pub no_first : (c : ℤ) (s t : Term) (old : Form) → FormOf s None → DifferenceAdded c s t old None
unfolding FormOf DifferenceAdded
no_first c s t old h = λ x. h x.0

pub no_second : (c : ℤ) (s t : Term) (old : Form) → FormOf t None → DifferenceAdded c s t old None
unfolding FormOf DifferenceAdded
no_second c s t old h = λ x. h x.1

times_one : (c : ℤ) → c *ℤ pos 1 ≡ c
times_one c = *ℤ_comm c (pos 1) ∙ one_times c

one_more_step : (c old mid new x : ℤ) → mid ≡ old +ℤ (c *ℤ x) → new ≡ mid +ℤ c → new ≡ old +ℤ (c *ℤ (x +ℤ pos 1))
one_more_step c old mid new x d e =
    let p : c *ℤ (x +ℤ pos 1) ≡ (c *ℤ x) +ℤ (c *ℤ pos 1) = distributes c x (pos 1) in
    let q : c *ℤ pos 1 ≡ c = times_one c in
    omega (arith, ints)

same_step : (c old mid new x : ℤ) → mid ≡ old +ℤ (c *ℤ x) → new ≡ mid → new ≡ old +ℤ (c *ℤ (x +ℤ pos 0))
same_step c old mid new x d e =
    let p : x +ℤ pos 0 ≡ x = omega (arith, ints) in
    let q : c *ℤ (x +ℤ pos 0) ≡ c *ℤ x = ap (λ z. c *ℤ z) p in
    omega (arith, ints)

one_more_adds : (c : ℤ) (t : Term) (old mid new : Form) → AddsTerm c t old mid → AddsConstant c mid new → AddsTerm c (one_more t) old new
unfolding coefficient_of constant_of
one_more_adds c t old mid new h k = record {
  coefficients = λ i. same_step c (coefficient old i) (coefficient mid i) (coefficient new i) (coefficient_of t i) (h.coefficients i) (k.coefficients i);
  constant = one_more_step c old.constant mid.constant new.constant (constant_of t) h.constant k.constant;
}

pub strict_added : (c : ℤ) (s t : Term) (old mid new : Form) → DifferenceAdded c s t old (Some mid) → AddsConstant c mid new → StrictAdded c s t old (Some new)
unfolding DifferenceAdded StrictAdded
strict_added c s t old mid new h k = (h.0, one_more_adds c (s − t) old mid new h.1 k)

pub not_strict : (c : ℤ) (s t : Term) (old : Form) → DifferenceAdded c s t old None → StrictAdded c s t old None
unfolding DifferenceAdded StrictAdded
not_strict c s t old h = h

zero_step : (c old x : ℤ) → x ≡ pos 0 → old ≡ old +ℤ (c *ℤ x)
zero_step c old x e =
    let p : c *ℤ x ≡ pos 0 = ap (λ z. c *ℤ z) e ∙ times_zero c in
    omega (arith, ints)

one_step : (c old new x : ℤ) → x ≡ pos 1 → new ≡ old +ℤ c → new ≡ old +ℤ (c *ℤ x)
one_step c old new x e h =
    let p : c *ℤ x ≡ c = ap (λ z. c *ℤ z) e ∙ times_one c in
    omega (arith, ints)

pub zero_adds : (c : ℤ) (old : Form) → AddsTerm c (number 0) old old
unfolding coefficient_of constant_of
zero_adds c old = record {
  coefficients = λ i. zero_step c (coefficient old i) (pos 0) refl;
  constant = zero_step c old.constant (pos 0) refl;
}

pub one_adds : (c : ℤ) (old new : Form) → AddsConstant c old new → AddsTerm c (number 1) old new
unfolding coefficient_of constant_of
one_adds c old new h = record {
  coefficients = λ i. h.coefficients i ∙ zero_step c (coefficient old i) (pos 0) refl;
  constant = one_step c old.constant new.constant (pos 1) refl h.constant;
}

-- ---- sizes

pub roomy : (f : Form) → IsRoomy f → IsWithin room f
unfolding IsRoomy room
roomy f h = within_more (pos (2 ^ 124)) (pos (2 ^ 125)) f (omega (arith, ints)) h

pub sum_room : (c : ℤ) (g f h : Form) → IsRoomy f → IsAtMost (pos (2 ^ 31)) c → IsWithin (pos (2 ^ 62)) g → AddsScaled c g f h → IsWithin room h
unfolding IsRoomy room
sum_room c g f h r k w s =
    let t = within_times (2 ^ 31) (2 ^ 62) c g k w in
    within_more (pos (2 ^ 124) +ℤ pos (2 ^ 31 * 2 ^ 62)) (pos (2 ^ 125)) h (omega (arith, ints)) (scaled_within (pos (2 ^ 124)) (pos (2 ^ 31 * 2 ^ 62)) c g f h r t s)

-- no entry of the term's form is larger than so much
pub record HasEntries (m : ℕ) (t : Term) : Type 0 where
  pub coefficients : (i : ℕ) → IsAtMost (pos m) (coefficient_of t i)
  pub constant : IsAtMost (pos m) (constant_of t)

term_step : (b m : ℕ) (c old new x : ℤ) → IsAtMost (pos b) old → IsAtMost (pos (2 ^ 31)) c → IsAtMost (pos m) x → new ≡ old +ℤ (c *ℤ x) → IsAtMost (pos (b + 2 ^ 31 * m)) new
term_step b m c old new x h k e s = at_most_sum (pos b) (pos (2 ^ 31 * m)) old (c *ℤ x) new s h (at_most_product (2 ^ 31) m c x k e)

pub term_within : (b m : ℕ) (c : ℤ) (t : Term) (old new : Form) → IsWithin (pos b) old → IsAtMost (pos (2 ^ 31)) c → HasEntries m t → AddsTerm c t old new → IsWithin (pos (b + 2 ^ 31 * m)) new
term_within b m c t old new h k e s = record {
  coefficients = λ i. term_step b m c (coefficient old i) (coefficient new i) (coefficient_of t i) (h.coefficients i) k (e.coefficients i) (s.coefficients i);
  constant = term_step b m c old.constant new.constant (constant_of t) h.constant k e.constant s.constant;
}

small_difference : (x y : ℤ) → IsAtMost (pos (2 ^ 62)) x → IsAtMost (pos (2 ^ 62)) y → IsAtMost (pos (2 ^ 63)) (x -ℤ y)
small_difference x y h k =
    let a = h.low in let b = h.high in let c = k.low in let d = k.high in
    record { low = omega (arith, ints); high = omega (arith, ints) }

pub difference_entries : (s t : Term) → IsSmall s → IsSmall t → HasEntries (2 ^ 63) (s − t)
unfolding coefficient_of constant_of
difference_entries s t h k =
    let a = small_form s h in
    let b = small_form t k in
    record {
      coefficients = λ i. small_difference (coefficient_of s i) (coefficient_of t i) (a.coefficients i) (b.coefficients i);
      constant = small_difference (constant_of s) (constant_of t) a.constant b.constant;
    }

pub difference_room : (c : ℤ) (s t : Term) (old new : Form) → IsRoomy old → IsAtMost (pos (2 ^ 31)) c → DifferenceAdded c s t old (Some new) → IsWithin room new
unfolding IsRoomy room DifferenceAdded
difference_room c s t old new r k h =
    within_more (pos (2 ^ 124 + 2 ^ 31 * 2 ^ 63)) (pos (2 ^ 125)) new (omega (arith, ints)) (term_within (2 ^ 124) (2 ^ 63) c (s − t) old new r k (difference_entries s t h.0.0 h.0.1) h.1)

pub seen_difference : (c : ℤ) (s t : Term) (old : Form) (r : Option Form) → SFits w64 c → DifferenceAdded (to_z w64 (of_z w64 c)) s t old r → DifferenceAdded c s t old r
seen_difference c s t old r w h = let P : ℤ → Type 0 = λ x. DifferenceAdded x s t old r in subst P (to_z-of_z w) h

pub ruleset differences = (roomy, sum_room, form_within, difference_added, no_first, no_second, strict_added, not_strict, difference_room)
