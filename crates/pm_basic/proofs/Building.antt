-- Lists that are built from another one, item by item.
use Rattle.std.proofs.Common.{◌≡◌, ℕ, zero, suc, ◌+◌, ◌<◌, ◌≤◌, Bool, true, false, cond, List, [], ◌∷◌, ◌++◌, length, take, map, refl, sym, ◌∙◌, ap, subst, arith, Some, bytes_eq, slice_get}
use Rattle.std.proofs.lemmas.List.{append-nil, append_assoc, take_all}
use Rattle.std.proofs.lemmas.Slice.Eq.{bytes_eq-Decides}
use Rattle.pm_table.specs.Works.{Named}
use Rattle.pm_table.specs.Stepping.{times}

module _ {A B : Type 0} (step : A → List B) where
  -- what each item gives, in order
  abbrev pub each : List A → List B
  each [] = []
  each (x ∷ xs) = step x ++ each xs

  pub record IsBuilt (xs : List A) (i : ℕ) (out : List B) : Type 0 where
    pub within : i ≤ length xs
    pub is : out ≡ each (take i xs)

  inside : (xs : List A) (i : ℕ) (x : A) → slice_get xs i ≡ Some x → i < length xs
  inside [] i x at = absurd cc
  inside (y ∷ xs) zero x at = omega arith
  inside (y ∷ xs) (suc i) x at = omega (arith, inside xs i x at)

  same_item : (y x : A) → Some y ≡ Some x → y ≡ x
  same_item y x e = cc

  more : (xs : List A) (i : ℕ) (x : A) → slice_get xs i ≡ Some x → each (take (suc i) xs) ≡ each (take i xs) ++ step x
  more [] i x at = absurd cc
  more (y ∷ xs) zero x at = append-nil (step y) ∙ ap step (same_item y x at)
  more (y ∷ xs) (suc i) x at = ap (λ zs. step y ++ zs) (more xs i x at) ∙ sym (append_assoc (step y) (each (take i xs)) (step x))

  pub built_more : (xs : List A) (i j : ℕ) (x : A) (out now : List B) → j ≡ i + 1 → slice_get xs i ≡ Some x → IsBuilt xs i out → now ≡ out ++ step x → IsBuilt xs j now
  built_more xs i j x out now next at b e =
      let j_is : suc i ≡ j = omega (arith, next) in
      subst (λ n. IsBuilt xs n now) j_is (record { within = omega (arith, inside xs i x at); is = e ∙ (ap (λ zs. zs ++ step x) b.is ∙ sym (more xs i x at)) })

  pub built_all : (xs : List A) (i : ℕ) (out : List B) → length xs ≤ i → IsBuilt xs i out → out ≡ each xs
  built_all xs i out le b = b.is ∙ ap each (take_all i xs le)

pub each_one : {A B : Type 0} (f : A → B) (xs : List A) → each (λ x. f x ∷ []) xs ≡ map f xs
each_one f [] = refl
each_one f (x ∷ xs) = ap (λ ys. f x ∷ ys) (each_one f xs)

-- ---- names

pub same_name : (x : Named) → bytes_eq x x ≡ true
same_name x = (bytes_eq-Decides x x).1 refl

pub name_is : (x y : Named) → bytes_eq x y ≡ true → x ≡ y
name_is x y e = (bytes_eq-Decides x y).0 e

pub get_mapped : {A B : Type 0} (f : A → B) (xs : List A) (i : ℕ) (x : A) → slice_get xs i ≡ Some x → slice_get (map f xs) i ≡ Some (f x)
get_mapped f [] i x e = absurd cc
get_mapped f (y ∷ xs) zero x e = ap (λ z. Some (f z)) (same_item (λ z. z ∷ []) y x e)
get_mapped f (y ∷ xs) (suc i) x e = get_mapped f xs i x e

pub take_mapped : {A B : Type 0} (f : A → B) (xs : List A) (i : ℕ) → map f (take i xs) ≡ take i (map f xs)
take_mapped f [] zero = refl
take_mapped f [] (suc i) = refl
take_mapped f (x ∷ xs) zero = refl
take_mapped f (x ∷ xs) (suc i) = ap (λ ys. f x ∷ ys) (take_mapped f xs i)

here_counted : (b : Bool) (n : ℕ) → b ≡ true → 1 ≤ cond b (suc n) n
here_counted true n e = omega arith
here_counted false n e = absurd cc

later_counted : (b : Bool) (n : ℕ) → 1 ≤ n → 1 ≤ cond b (suc n) n
later_counted true n le = omega arith
later_counted false n le = le

pub counted : (x : Named) (xs : List Named) (i : ℕ) → slice_get xs i ≡ Some x → 1 ≤ times x xs
counted x [] i at = absurd cc
counted x (y ∷ xs) zero at = here_counted (bytes_eq x y) (times x xs) (ap (bytes_eq x) (same_item (λ z. z ∷ []) y x at) ∙ same_name x)
counted x (y ∷ xs) (suc i) at = later_counted (bytes_eq x y) (times x xs) (counted x xs i at)

before_step : (b : Bool) (n m : ℕ) → 1 ≤ n → cond b (suc n) n ≤ 1 → (n ≤ 1 → m ≡ 0) → cond b (suc m) m ≡ 0
before_step true n m some most rest = absurd (omega (arith, some, most))
before_step false n m some most rest = rest most

-- a name that stands once doesn't stand before its place
pub not_before : (x : Named) (xs : List Named) (i : ℕ) → slice_get xs i ≡ Some x → times x xs ≤ 1 → times x (take i xs) ≡ 0
not_before x [] i at most = absurd cc
not_before x (y ∷ xs) zero at most = refl
not_before x (y ∷ xs) (suc i) at most = before_step (bytes_eq x y) (times x xs) (times x (take i xs)) (counted x xs i at) most (not_before x xs i at)
