-- What searches tell, put together, and tests of the items of lists.
use Rattle.std.proofs.Common.{◌≡◌, Bool, true, false, ◌||◌, List, [], ◌∷◌, refl, ap, ap₂, sym, subst, ◌∙◌, Option, Some}
use Rattle.std.specs.List.{list_any}
use Rattle.pm_closing.specs.Ways.{Tells}

-- ---- what is found first, and what is found in the rest

pub by_first : {A : Type 0} (a b : Bool) (P : A → Type 0) (x : A) → a ≡ true → P x → Tells (a || b) P (Some x)
by_first a b P x e p = (ap (λ t. t || b) e, p)

pub by_rest : {A : Type 0} (a b : Bool) (P : A → Type 0) (r : Option A) → a ≡ false → Tells b P r → Tells (a || b) P r
by_rest a b P r e t = subst (λ s. Tells (s || b) P r) (sym e) t

pub retest : {A : Type 0} (a b : Bool) (P : A → Type 0) (r : Option A) → a ≡ b → Tells a P r → Tells b P r
retest a b P r e t = subst (λ s. Tells s P r) e t

pub either_assoc : (a b c : Bool) → a || (b || c) ≡ (a || b) || c
either_assoc true b c = refl
either_assoc false b c = refl

-- ---- tests of items

pub any_same : {A : Type 0} (p q : A → Bool) → ((x : A) → p x ≡ q x) → (xs : List A) → list_any p xs ≡ list_any q xs
any_same p q e [] = refl
any_same p q e (x ∷ xs) = ap₂ (λ a b. a || b) (e x) (any_same p q e xs)

pub any_none : {A : Type 0} (p : A → Bool) → ((x : A) → p x ≡ false) → (xs : List A) → list_any p xs ≡ false
any_none p e [] = refl
any_none p e (x ∷ xs) = ap₂ (λ a b. a || b) (e x) (any_none p e xs)

swapped : (a b c d : Bool) → (a || b) || (c || d) ≡ (a || c) || (b || d)
swapped true b c d = refl
swapped false true true d = refl
swapped false true false d = refl
swapped false false c d = refl

pub any_either : {A : Type 0} (p q : A → Bool) (xs : List A) → list_any (λ x. p x || q x) xs ≡ list_any p xs || list_any q xs
any_either p q [] = refl
any_either p q (x ∷ xs) = ap (λ b. (p x || q x) || b) (any_either p q xs) ∙ swapped (p x) (q x) (list_any p xs) (list_any q xs)
