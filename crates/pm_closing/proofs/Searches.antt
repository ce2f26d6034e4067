-- Searches of lists for an item with a part that is equal to another.
use Rattle.std.proofs.Common.{◌≡◌, ◌↔◌, ℕ, zero, suc, ◌+◌, ◌<◌, ◌≤◌, Bool, true, false, ◌||◌, List, [], ◌∷◌, length, drop, refl, ap, sym, subst, ◌∙◌, arith, Option, Some, None}
use Rattle.std.specs.Prelude.{IsTrue, slice_get, option_map}
use Rattle.std.specs.Bool.{Decides}
use Rattle.std.specs.List.{list_any}
use Rattle.std.proofs.lemmas.Bool.Decides.{same_from_decides}
use Rattle.pm_closing.specs.Ways.{Tells}

-- none of the first i items passes the test
pub record IsPassed {A : Type 0} (test : A → Bool) (list : List A) (i : ℕ) : Type 0 where
  pub within : i ≤ length list
  pub is : list_any test list ≡ list_any test (drop i list)

pub begins : {A : Type 0} (test : A → Bool) (list : List A) → IsPassed test list 0
begins test list = record { within = omega arith; is = refl }

pub from_place : {A : Type 0} (xs : List A) (i : ℕ) (x : A) → slice_get xs i ≡ Some x → drop i xs ≡ x ∷ drop (suc i) xs
from_place [] i x at = absurd cc
from_place (y ∷ xs) zero x at = let same : y ≡ x = cc in ap (λ z. z ∷ xs) same
from_place (y ∷ xs) (suc i) x at = from_place xs i x at

inside : {A : Type 0} (xs : List A) (i : ℕ) (x : A) → slice_get xs i ≡ Some x → i < length xs
inside [] i x at = absurd cc
inside (y ∷ xs) zero x at = omega arith
inside (y ∷ xs) (suc i) x at = omega (arith, inside xs i x at)

-- the item at a place passes
pub any_at : {A : Type 0} (test : A → Bool) (xs : List A) (i : ℕ) (x : A) → slice_get xs i ≡ Some x → test x ≡ true → list_any test xs ≡ true
any_at test [] i x at e = absurd cc
any_at test (y ∷ xs) zero x at e = let same : y ≡ x = cc in let here : test y ≡ true = ap test same ∙ e in ap (λ b. b || list_any test xs) here
any_at test (y ∷ xs) (suc i) x at e = later (test y) (list_any test xs) (any_at test xs i x at e)
  where
    later : (a b : Bool) → b ≡ true → a || b ≡ true
    later true b e = refl
    later false b e = e

pub goes_on : {A : Type 0} (test : A → Bool) (list : List A) (i j : ℕ) (x : A) → j ≡ i + 1 → slice_get list i ≡ Some x → test x ≡ false → IsPassed test list i → IsPassed test list j
goes_on test list i j x next at fails before = record {
  within = omega (arith, next, inside list i x at);
  is =
      let j_is : suc i ≡ j = omega (arith, next) in
      subst (λ n. list_any test list ≡ list_any test (drop n list)) j_is
      (before.is ∙ ap (list_any test) (from_place list i x at) ∙ ap (λ b. b || list_any test (drop (suc i) list)) fails);
}

none_left : {A : Type 0} (xs : List A) (i : ℕ) → length xs ≤ i → drop i xs ≡ []
none_left [] zero le = refl
none_left [] (suc i) le = refl
none_left (x ∷ xs) zero le = absurd (omega (arith, le))
none_left (x ∷ xs) (suc i) le = none_left xs i (omega (arith, le))

pub ends : {A : Type 0} (test : A → Bool) (list : List A) (i : ℕ) → length list ≤ i → IsPassed test list i → list_any test list ≡ false
ends test list i le before = before.is ∙ ap (list_any test) (none_left list i le)

-- ---- by a part of the items, looked up by itself

module _ {A B : Type 0} (part : A → B) (eq : B → B → Bool) (decides : (x y : B) → Decides (eq x y) (x ≡ y)) (wanted : B) where
  abbrev test : A → Bool
  test x = eq wanted (part x)

  abbrev IsAt : List A → ℕ → Type 0
  IsAt list i = option_map part (slice_get list i) ≡ Some wanted

  looked : (o : Option A) (y : B) → Some y ≡ option_map part o → (x : A) × (o ≡ Some x) × (y ≡ part x)
  looked None y e = absurd cc
  looked (Some x) y e = (x, refl, let same : y ≡ part x = cc in same)

  pub goes_past : (list : List A) (i j : ℕ) (y : B) (same : Bool) → j ≡ i + 1 → Some y ≡ option_map part (slice_get list i) → IsTrue same ↔ (wanted ≡ y) → same ≡ false → IsPassed test list i → IsPassed test list j
  goes_past list i j y same next at told fails before =
      let l = looked (slice_get list i) y at in
      let is : same ≡ eq wanted y = same_from_decides same (eq wanted y) told (decides wanted y) in
      goes_on test list i j l.0 next l.1 (ap (eq wanted) (sym l.2) ∙ (sym is ∙ fails)) before

  pub found : (list : List A) (i : ℕ) (y : B) (same : Bool) → Some y ≡ option_map part (slice_get list i) → IsTrue same ↔ (wanted ≡ y) → same ≡ true → Tells (list_any test list) (IsAt list) (Some i)
  found list i y same at told holds =
      let l = looked (slice_get list i) y at in
      let e : wanted ≡ y = told.0 holds in
      (any_at test list i l.0 l.1 (ap (eq wanted) (sym l.2) ∙ (decides wanted y).1 e), sym at ∙ ap Some (sym e))

  pub never : (list : List A) (i : ℕ) → i < length list → None ≡ option_map part (slice_get list i) → ⊥
  never [] i lt at = absurd (omega (arith, lt))
  never (x ∷ xs) zero lt at = cc
  never (x ∷ xs) (suc i) lt at = never xs i (omega (arith, lt)) at
