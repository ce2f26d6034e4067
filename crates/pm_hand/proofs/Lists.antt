-- Lists in which items are looked up by their names.
use Rattle.std.proofs.Common.{◌≡◌, ℕ, zero, suc, ◌+◌, ◌<◌, ◌≤◌, Bool, true, false, not, cond, List, [], ◌∷◌, length, map, filter, refl, sym, ◌∙◌, ap, subst, arith, Option, Some, None, position, bytes_eq, remove, slice_get}
use Rattle.std.specs.List.{position_from}
use Rattle.std.proofs.lemmas.Iterator.Adapters.{position_from-zero}
use Rattle.pm_table.specs.Works.{Named}
use Rattle.pm_table.specs.Stepping.{times}

module _ {A : Type 0} (name_of : A → Named) (name : Named) where
  abbrev test : A → Bool
  test x = bytes_eq name (name_of x)

  abbrev others : List A → List A
  others xs = filter (λ x. not (bytes_eq name (name_of x))) xs

  abbrev count : List A → ℕ
  count xs = times name (map name_of xs)

  -- the first of the name
  abbrev pub first_named : List A → Option A
  first_named [] = None
  first_named (x ∷ xs) = cond (test x) (Some x) (first_named xs)

  -- ---- where there is none

  pub none_counted : (xs : List A) (j : ℕ) → position_from test j xs ≡ None → count xs ≡ 0
  none_counted [] j e = refl
  none_counted (x ∷ xs) j e = by (test x) e (none_counted xs (j + 1))
    where
      by : (b : Bool) → cond b (Some j) (position_from test (j + 1) xs) ≡ None → (position_from test (j + 1) xs ≡ None → count xs ≡ 0) → cond b (suc (count xs)) (count xs) ≡ 0
      by true bad rest = absurd cc
      by false none rest = rest none

  pub zero_named : (xs : List A) → count xs ≡ 0 → first_named xs ≡ None
  zero_named [] e = refl
  zero_named (x ∷ xs) e = by (test x) e (zero_named xs)
    where
      by : (b : Bool) → cond b (suc (count xs)) (count xs) ≡ 0 → (count xs ≡ 0 → first_named xs ≡ None) → cond b (Some x) (first_named xs) ≡ None
      by true bad rest = absurd (omega (arith, bad))
      by false none rest = rest none

  pub zero_others : (xs : List A) → count xs ≡ 0 → others xs ≡ xs
  zero_others [] e = refl
  zero_others (x ∷ xs) e = by (test x) e (zero_others xs)
    where
      by : (b : Bool) → cond b (suc (count xs)) (count xs) ≡ 0 → (count xs ≡ 0 → others xs ≡ xs) → cond (not b) (x ∷ others xs) (others xs) ≡ x ∷ xs
      by true bad rest = absurd (omega (arith, bad))
      by false none rest = ap (λ ys. x ∷ ys) (rest none)

  -- ---- where there is one

  least : (xs : List A) (j i : ℕ) → position_from test j xs ≡ Some i → j ≤ i
  least [] j i e = absurd cc
  least (x ∷ xs) j i e = by (test x) e (least xs (j + 1) i)
    where
      by : (b : Bool) → cond b (Some j) (position_from test (j + 1) xs) ≡ Some i → (position_from test (j + 1) xs ≡ Some i → j + 1 ≤ i) → j ≤ i
      by true e rest = let same : j ≡ i = cc in omega (arith, same)
      by false e rest = omega (arith, rest e)

  -- it is at this place, is the first of the name, and without it the others are left
  pub record IsFound (xs : List A) (n : ℕ) (x : A) : Type 0 where
    pub get : slice_get xs n ≡ Some x
    pub first : first_named xs ≡ Some x
    pub counted : 1 ≤ count xs
    pub rest : count xs ≤ 1 → others xs ≡ remove xs n

  abbrev Found : List A → ℕ → Type 0
  Found xs n = (x : A) × IsFound xs n x

  found_here : (x : A) (xs : List A) (j i : ℕ) (b : Bool) → test x ≡ b → cond b (Some j) (position_from test (j + 1) xs) ≡ Some i → i ≡ j + 0 → Found (x ∷ xs) 0
  found_here x xs j i true is e at = (
    x,
    record {
      get = refl;
      first = ap (λ b. cond b (Some x) (first_named xs)) is;
      counted = subst (λ b. 1 ≤ cond b (suc (count xs)) (count xs)) (sym is) (omega arith);
      rest = λ most. ap (λ b. cond (not b) (x ∷ others xs) (others xs)) is ∙ zero_others xs (let few : suc (count xs) ≤ 1 = subst (λ b. cond b (suc (count xs)) (count xs) ≤ 1) is most in omega (arith, few));
    },
  )
  found_here x xs j i false is e at = absurd (omega (arith, at, least xs (j + 1) i e))

  found_later : (x : A) (xs : List A) (j i n : ℕ) (b : Bool) → test x ≡ b → cond b (Some j) (position_from test (j + 1) xs) ≡ Some i → i ≡ j + suc n → (position_from test (j + 1) xs ≡ Some i → Found xs n) → Found (x ∷ xs) (suc n)
  found_later x xs j i n true is e at inner = absurd (let same : j ≡ i = cc in omega (arith, at, same))
  found_later x xs j i n false is e at inner =
      let found = inner e in (
        found.0,
        record {
          get = found.1.get;
          first = ap (λ b. cond b (Some x) (first_named xs)) is ∙ found.1.first;
          counted = subst (λ b. 1 ≤ cond b (suc (count xs)) (count xs)) (sym is) found.1.counted;
          rest = λ most. ap (λ b. cond (not b) (x ∷ others xs) (others xs)) is ∙ ap (λ ys. x ∷ ys) (found.1.rest (subst (λ b. cond b (suc (count xs)) (count xs) ≤ 1) is most));
        },
      )

  found_from : (xs : List A) (j i n : ℕ) → i ≡ j + n → position_from test j xs ≡ Some i → Found xs n
  found_from [] j i n at e = absurd cc
  found_from (x ∷ xs) j i zero at e = found_here x xs j i (test x) refl e at
  found_from (x ∷ xs) j i (suc n) at e = found_later x xs j i n (test x) refl e at (found_from xs (j + 1) i n (omega (arith, at)))

  pub found_at : (xs : List A) (i : ℕ) → position test xs ≡ Some i → (x : A) × IsFound xs i x
  found_at xs i e = found_from xs 0 i i (omega arith) (sym (position_from-zero test xs) ∙ e)

  pub none_at : (xs : List A) → position test xs ≡ None → count xs ≡ 0
  none_at xs e = none_counted xs 0 (sym (position_from-zero test xs) ∙ e)

  pub within : (xs : List A) (n : ℕ) (x : A) → slice_get xs n ≡ Some x → n < length xs
  within [] n x e = absurd cc
  within (y ∷ xs) zero x e = omega arith
  within (y ∷ xs) (suc n) x e = omega (arith, within xs n x e)
