-- Names that are compared by their bytes.
use Rattle.std.proofs.Common.{◌≡◌, ℕ, Bool, true, false, ◌||◌, List, refl, sym}
use Rattle.std.specs.Str.{bytes_eq}
use Rattle.std.proofs.lemmas.Slice.Eq.{bytes_eq-Decides}

one_truth : (p q : Bool) → (p ≡ true → q ≡ true) → (q ≡ true → p ≡ true) → p ≡ q
one_truth true q f g = sym (f refl)
one_truth false true f g = g refl
one_truth false false f g = refl

pub equal : (a b : List ℕ) → bytes_eq a b ≡ true → a ≡ b
equal a b e = (bytes_eq-Decides a b).0 e

pub either_side : (a b : List ℕ) → bytes_eq a b ≡ bytes_eq b a
either_side a b = one_truth (bytes_eq a b) (bytes_eq b a) (λ e. (bytes_eq-Decides b a).1 (sym (equal a b e))) (λ e. (bytes_eq-Decides a b).1 (sym (equal b a e)))

pub either_way : (a b : Bool) → (a || b) ≡ (b || a)
either_way true true = refl
either_way true false = refl
either_way false true = refl
either_way false false = refl

-- where the second gives the first, it adds nothing
pub nothing_new : (old same : Bool) → (same ≡ true → old ≡ true) → old ≡ (old || same)
nothing_new true same h = refl
nothing_new false true h = h refl
nothing_new false false h = refl
