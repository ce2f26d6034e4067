-- Lists by their last item.
use Rattle.std.proofs.Common.{◌≡◌, ℕ, zero, suc, ◌+◌, ◌-◌, ◌<◌, ◌≤◌, List, [], ◌∷◌, ◌++◌, length, drop, reverse, get_or, refl, sym, ◌∙◌, ap, ap₂, subst, arith, Option, Some, None}
use Rattle.std.specs.Prelude.{slice_get}
use Rattle.std.proofs.lemmas.List.{append-nil, append_assoc, reverse-append}

pub last_same : {A : Type 0} (xs ys : List A) (x y : A) → xs ++ x ∷ [] ≡ ys ++ y ∷ [] → (xs ≡ ys) × (x ≡ y)
last_same [] [] x y e = (refl, cc)
last_same [] (b ∷ []) x y e = absurd cc
last_same [] (b ∷ (c ∷ ys)) x y e = absurd cc
last_same (a ∷ []) [] x y e = absurd cc
last_same (a ∷ (c ∷ xs)) [] x y e = absurd cc
last_same (a ∷ xs) (b ∷ ys) x y e =
    let head : a ≡ b = cc in
    let tail : xs ++ x ∷ [] ≡ ys ++ y ∷ [] = cc in
    let rest = last_same xs ys x y tail in
    (ap₂ (λ z zs. z ∷ zs) head rest.0, rest.1)

length_some : {A : Type 0} (xs : List A) (x : A) → length (xs ++ x ∷ []) ≡ suc (length xs)
length_some [] x = refl
length_some (a ∷ xs) x = ap suc (length_some xs x)

pub some_last : {A : Type 0} (list xs : List A) (x : A) → list ≡ xs ++ x ∷ [] → 0 < length list
some_last list xs x e = let n : length list ≡ suc (length xs) = ap length e ∙ length_some xs x in omega (arith, n)

get_end : {A : Type 0} (xs : List A) (x : A) → slice_get (xs ++ x ∷ []) (length xs) ≡ Some x
get_end [] x = refl
get_end (a ∷ xs) x = get_end xs x

pub get_last : {A : Type 0} (list xs : List A) (x : A) → list ≡ xs ++ x ∷ [] → slice_get list (length list - 1) ≡ Some x
get_last list xs x e =
    let n : length list ≡ suc (length xs) = ap length e ∙ length_some xs x in
    let at : length list - 1 ≡ length xs = omega (arith, n) in
    ap₂ slice_get e at ∙ get_end xs x

-- ---- lists taken from the end

pub reversed_none : {A : Type 0} (xs : List A) → [] ≡ reverse (drop (length xs) xs)
reversed_none [] = refl
reversed_none (x ∷ xs) = reversed_none xs

from_place : {A : Type 0} (xs : List A) (i : ℕ) (x : A) → i < length xs → x ≡ get_or xs i x → drop i xs ≡ x ∷ drop (suc i) xs
from_place [] i x lt at = absurd (omega (arith, lt))
from_place (y ∷ xs) zero x lt at = ap (λ z. z ∷ xs) (sym at)
from_place (y ∷ xs) (suc i) x lt at = from_place xs i x (omega (arith, lt)) at

-- one more before those that were taken
pub reversed_more : {A : Type 0} (xs before after : List A) (i : ℕ) (x y : A) → 0 < i → i ≤ length xs → before ≡ reverse (drop i xs) → x ≡ get_or xs (i - 1) x → y ≡ x → after ≡ before ++ y ∷ [] → after ≡ reverse (drop (i - 1) xs)
reversed_more xs before after zero x y some le was at same is = absurd (omega (arith, some))
reversed_more xs before after (suc i) x y some le was at same is =
    let here : suc i - 1 ≡ i = omega arith in
    let from : drop i xs ≡ x ∷ drop (suc i) xs = from_place xs i x (omega (arith, le)) (rw here at at) in
    rw here (is ∙ ap₂ (λ zs z. zs ++ z ∷ []) was same ∙ sym (ap reverse from ∙ reverse-append (x ∷ []) (drop (suc i) xs)))

-- what is moved over from the end of one list
pub moved_over : {A : Type 0} (xs more back now : List A) (x : A) → xs ≡ more ++ x ∷ [] → now ≡ back ++ x ∷ [] → more ++ reverse now ≡ xs ++ reverse back
moved_over xs more back now x e f = ap (λ zs. more ++ reverse zs) f ∙ ap (λ zs. more ++ zs) (reverse-append back (x ∷ [])) ∙ sym (append_assoc more (x ∷ []) (reverse back)) ∙ ap (λ zs. zs ++ reverse back) (sym e)
