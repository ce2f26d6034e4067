-- Lists and one item more at the end.
use Rattle.std.proofs.Common.{◌≡◌, ◌⊎◌, List, [], ◌∷◌, ◌++◌, refl, sym, ap, ap₂, subst, inl, inr}
use Rattle.std.proofs.lemmas.List.{append_assoc}
use Rattle.pm_check.specs.Fronts.{EachBehind}

pub heads : {A : Type 0} (x y : A) (xs ys : List A) → x ∷ xs ≡ y ∷ ys → (x ≡ y) × (xs ≡ ys)
heads x y xs ys e = (cc, cc)

nothing : {A : Type 0} (before : List A) (y : A) (behind : List A) → [] ≡ before ++ y ∷ behind → ⊥
nothing [] y behind e = cc
nothing (b ∷ before) y behind e = cc

-- where an item of the longer list is
last_or_before : {A : Type 0} (xs : List A) (x : A) (before : List A) (y : A) (behind : List A) → xs ++ x ∷ [] ≡ before ++ y ∷ behind → ((zs : List A) × (xs ≡ before ++ y ∷ zs)) ⊎ ((xs ≡ before) × (x ≡ y))
last_or_before [] x [] y behind e = inr (refl, (heads x y [] behind e).0)
last_or_before [] x (b ∷ before) y behind e = absurd (nothing before y behind (heads x b [] (before ++ y ∷ behind) e).1)
last_or_before (z ∷ xs) x [] y behind e = inl (xs, ap (λ w. w ∷ xs) (heads z y (xs ++ x ∷ []) behind e).0)
last_or_before (z ∷ xs) x (b ∷ before) y behind e =
    let both = heads z b (xs ++ x ∷ []) (before ++ y ∷ behind) e in
    elim (last_or_before xs x before y behind both.1) [
      | inl p ↦ inl (p.0, ap₂ (λ w ws. w ∷ ws) both.0 p.1)
      | inr p ↦ inr (ap₂ (λ w ws. w ∷ ws) both.0 p.0, p.1)
    ]

pub each_none : {A : Type 0} (holds : List A → A → Type 0) → EachBehind holds []
each_none holds before x behind e = absurd (nothing before x behind e)

pub each_more : {A : Type 0} (holds : List A → A → Type 0) (xs : List A) (x : A) → EachBehind holds xs → holds xs x → EachBehind holds (xs ++ x ∷ [])
each_more holds xs x each now before y behind e = elim (last_or_before xs x before y behind e) [
  | inl p ↦ each before y p.0 p.1
  | inr p ↦ subst (λ ys. holds ys y) p.0 (subst (λ z. holds xs z) p.1 now)
]

-- the first item behind a front, and the front with it
pub each_now : {A : Type 0} (holds : List A → A → Type 0) (front : List A) (x : A) (xs : List A) → EachBehind holds (front ++ x ∷ xs) → holds front x
each_now holds front x xs each = each front x xs refl

pub each_next : {A : Type 0} (holds : List A → A → Type 0) (front : List A) (x : A) (xs : List A) → EachBehind holds (front ++ x ∷ xs) → EachBehind holds ((front ++ x ∷ []) ++ xs)
each_next holds front x xs each = subst (λ ys. EachBehind holds ys) (sym (append_assoc front (x ∷ []) xs)) each
