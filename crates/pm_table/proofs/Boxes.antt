-- A certificate of the box is one of the rule of linear arithmetic.
use Rattle.std.proofs.Common.{◌≡◌, ◌⊎◌, inl, inr, ℕ, zero, suc, ◌^◌, Bool, true, false, ◌&&◌, ◌||◌, if◌then◌else◌, List, [], ◌∷◌, ◌++◌, map, length, take, refl, ap, ap₂, sym, ◌∙◌, subst}
use Rattle.std.specs.Prelude.{cond, nat_eq, ℤ, pos, neg_ℤ, ◌+ℤ◌, ◌-ℤ◌, ◌*ℤ◌, ◌≤ℤ◌, int_le, filter}
use Rattle.std.specs.Bool.{passes}
use Rattle.std.specs.List.{list_all, list_any, flat_map, AllByRecursion}
use Rattle.std.specs.Ordering.{int_eq}
use Rattle.std.specs.Int.Signed.{le_z_yes}
use Rattle.std.proofs.Math.IntN.{*ℤ-zero}
use Rattle.std.proofs.lemmas.Bool.Decides.{Decides-eqb, Decides-int_eq}
use Rattle.pm_logic.specs.declared.formula.Term.{Term}
use Rattle.pm_logic.specs.declared.formula.Term.TheVariants.{Lit, Var}
use Rattle.pm_logic.specs.declared.formula.Pure.{Pure}
use Rattle.pm_logic.specs.declared.formula.Pure.TheVariants.{True, False, Eq, Le, Lt}
use Rattle.pm_logic.specs.Trees.{add, sub, neg, scale, both, either, nope}
use Rattle.pm_linform.specs.Entries.{IsAtMost}
use Rattle.pm_rules.specs.Linear.{coefficient_of, constant_of, HasSmallForm, IsSmall, atom, IsAtom, AreSmall, IsEquation, weighted, HaveSigns, IsShown, HasSecond}
use Rattle.pm_table.specs.Linears.{is_within, indices, has_small_form, is_small, are_small, is_atom, turned, is_equation, forms, all_indices, adds_up, other_reading, conjuncts, is_usable, atoms, few, factors, choices, box}
use Rattle.pm_table.specs.LinearLaws.{BoxIsRule}
use Rattle.pm_table.proofs.Equals.{two_true}

-- ---- tests of numbers

is_at_most : (bound : ℕ) (z : ℤ) → is_within bound z ≡ true → IsAtMost (pos bound) z
is_at_most bound z e =
    let g = two_true (int_le (neg_ℤ (pos bound)) z) (int_le z (pos bound)) e in
    record { low = le_z_yes (passes (int_le (neg_ℤ (pos bound)) z) g.0); high = le_z_yes (passes (int_le z (pos bound)) g.1) }

-- ---- indices of terms

abbrev IsOf : List ℕ → ℕ → Type 0
IsOf xs i = list_any (nat_eq i) xs ≡ true

abbrev IsNotOf : List ℕ → ℕ → Type 0
IsNotOf xs i = list_any (nat_eq i) xs ≡ false

of_or_not : (b : Bool) → (b ≡ true) ⊎ (b ≡ false)
of_or_not true = inl refl
of_or_not false = inr refl

or_true : (a b : Bool) → (a || b) ≡ true → (a ≡ true) ⊎ (b ≡ true)
or_true true b e = inl refl
or_true false b e = inr e

or_false : (a b : Bool) → (a || b) ≡ false → (a ≡ false) × (b ≡ false)
or_false true b e = cc e
or_false false b e = (refl, e)

-- the test of all, at one of them
of_all : (test : ℕ → Bool) (xs : List ℕ) (i : ℕ) → list_all test xs ≡ true → IsOf xs i → test i ≡ true
of_all test [] i e h = cc h
of_all test (x ∷ xs) i e h =
    let g = two_true (test x) (list_all test xs) e in
    elim (or_true (nat_eq i x) (list_any (nat_eq i) xs) h) [
      | inl same ↦ subst (λ y. test y ≡ true) (sym ((Decides-eqb i x).0 same)) g.0
      | inr other ↦ of_all test xs i g.1 other
    ]

not_of_both : (xs ys : List ℕ) (i : ℕ) → IsNotOf (xs ++ ys) i → IsNotOf xs i × IsNotOf ys i
not_of_both [] ys i e = (refl, e)
not_of_both (x ∷ xs) ys i e =
    let g = or_false (nat_eq i x) (list_any (nat_eq i) (xs ++ ys)) e in
    let h = not_of_both xs ys i g.1 in
    (ap₂ (λ a b. a || b) g.0 h.0, h.1)

no_variable : (j i : ℕ) (b : Bool) → nat_eq i j ≡ false → nat_eq j i ≡ b → (if b then pos 1 else pos 0) ≡ pos 0
no_variable j i true h e = let k = (Decides-eqb i j).1 (sym ((Decides-eqb j i).0 e)) in cc (h, k)
no_variable j i false h e = refl

-- an index that the term doesn't have has the coefficient 0
no_coefficient : (t : Term) (i : ℕ) → IsNotOf (indices t) i → coefficient_of t i ≡ pos 0
unfolding indices coefficient_of
no_coefficient (Lit z) i h = refl
no_coefficient (Var j) i h = no_variable j i (nat_eq j i) (or_false (nat_eq i j) false h).0 refl
no_coefficient (add s t) i h = let g = not_of_both (indices s) (indices t) i h in ap₂ (λ a b. a +ℤ b) (no_coefficient s i g.0) (no_coefficient t i g.1)
no_coefficient (sub s t) i h = let g = not_of_both (indices s) (indices t) i h in ap₂ (λ a b. a -ℤ b) (no_coefficient s i g.0) (no_coefficient t i g.1)
no_coefficient (neg t) i h = ap neg_ℤ (no_coefficient t i h)
no_coefficient (scale z t) i h = ap (λ a. z *ℤ a) (no_coefficient t i h) ∙ *ℤ-zero z

-- ---- small terms

small_coefficient : (t : Term) (i : ℕ) → list_all (λ j. is_within (2 ^ 62) (coefficient_of t j)) (indices t) ≡ true → IsAtMost (pos (2 ^ 62)) (coefficient_of t i)
small_coefficient t i e =
    elim (of_or_not (list_any (nat_eq i) (indices t))) [
      | inl there ↦ is_at_most (2 ^ 62) (coefficient_of t i) (of_all (λ j. is_within (2 ^ 62) (coefficient_of t j)) (indices t) i e there)
      | inr not_there ↦ subst (IsAtMost (pos (2 ^ 62))) (sym (no_coefficient t i not_there)) (is_at_most (2 ^ 62) (pos 0) refl)
    ]

small_form : (t : Term) → has_small_form t ≡ true → HasSmallForm t
small_form t e =
    let g = two_true (list_all (λ j. is_within (2 ^ 62) (coefficient_of t j)) (indices t)) (is_within (2 ^ 62) (constant_of t)) e in
    record { coefficients = λ i. small_coefficient t i g.0; constant = is_at_most (2 ^ 62) (constant_of t) g.1 }

small : (t : Term) → is_small t ≡ true → IsSmall t
unfolding is_small IsSmall
small (Lit z) e = small_form (Lit z) e
small (Var i) e = small_form (Var i) e
small (add s t) e = let g = two_true (has_small_form (add s t) && is_small s) (is_small t) e in let h = two_true (has_small_form (add s t)) (is_small s) g.0 in (small_form (add s t) h.0, small s h.1, small t g.1)
small (sub s t) e = let g = two_true (has_small_form (sub s t) && is_small s) (is_small t) e in let h = two_true (has_small_form (sub s t)) (is_small s) g.0 in (small_form (sub s t) h.0, small s h.1, small t g.1)
small (neg t) e = let g = two_true (has_small_form (neg t)) (is_small t) e in (small_form (neg t) g.0, small t g.1)
small (scale z t) e = let g = two_true (has_small_form (scale z t)) (is_small t) e in (small_form (scale z t) g.0, small t g.1)

small_pure : (p : Pure) → are_small p ≡ true → AreSmall p
unfolding are_small AreSmall
small_pure True e = tt
small_pure False e = tt
small_pure (Eq s t) e = let g = two_true (is_small s) (is_small t) e in (small s g.0, small t g.1)
small_pure (Le s t) e = let g = two_true (is_small s) (is_small t) e in (small s g.0, small t g.1)
small_pure (Lt s t) e = let g = two_true (is_small s) (is_small t) e in (small s g.0, small t g.1)
small_pure (both a b) e = let g = two_true (are_small a) (are_small b) e in (small_pure a g.0, small_pure b g.1)
small_pure (either a b) e = let g = two_true (are_small a) (are_small b) e in (small_pure a g.0, small_pure b g.1)
small_pure (nope a) e = small_pure a e

-- ---- sums

no_weight : (cs : List ℤ) (ts : List Term) (i : ℕ) → IsNotOf (all_indices ts) i → weighted (λ t. coefficient_of t i) cs ts ≡ pos 0
no_weight [] ts i h = refl
no_weight (c ∷ cs) [] i h = refl
no_weight (c ∷ cs) (t ∷ ts) i h =
    let g = not_of_both (indices t) (all_indices ts) i h in
    ap₂ (λ a b. a +ℤ b) (ap (λ a. c *ℤ a) (no_coefficient t i g.0) ∙ *ℤ-zero c) (no_weight cs ts i g.1)

no_variable_left : (cs : List ℤ) (ts : List Term) (i : ℕ) → list_all (λ j. int_eq (weighted (λ t. coefficient_of t j) cs ts) (pos 0)) (all_indices ts) ≡ true → weighted (λ t. coefficient_of t i) cs ts ≡ pos 0
no_variable_left cs ts i e =
    elim (of_or_not (list_any (nat_eq i) (all_indices ts))) [
      | inl there ↦ (Decides-int_eq (weighted (λ t. coefficient_of t i) cs ts) (pos 0)).0 (of_all (λ j. int_eq (weighted (λ t. coefficient_of t j) cs ts) (pos 0)) (all_indices ts) i e there)
      | inr not_there ↦ no_weight cs ts i not_there
    ]

-- ---- lists whose elements all have a property

abbrev Every : {A : Type 0} → (A → Type 0) → List A → Type 0
Every P xs = AllByRecursion P xs

every_append : {A : Type 0} (P : A → Type 0) (xs ys : List A) → Every P xs → Every P ys → Every P (xs ++ ys)
every_append P [] ys h k = k
every_append P (x ∷ xs) ys h k = (h.0, every_append P xs ys h.1 k)

every_map : {A B : Type 0} (P : A → Type 0) (Q : B → Type 0) (f : A → B) (xs : List A) → ((x : A) → P x → Q (f x)) → Every P xs → Every Q (map f xs)
every_map P Q f [] each h = tt
every_map P Q f (x ∷ xs) each h = (each x h.0, every_map P Q f xs each h.1)

every_flat : {A B : Type 0} (P : A → Type 0) (Q : B → Type 0) (f : A → List B) (xs : List A) → ((x : A) → P x → Every Q (f x)) → Every P xs → Every Q (flat_map f xs)
every_flat P Q f [] each h = tt
every_flat P Q f (x ∷ xs) each h = every_append Q (f x) (flat_map f xs) (each x h.0) (every_flat P Q f xs each h.1)

every_take : {A : Type 0} (P : A → Type 0) (n : ℕ) (xs : List A) → Every P xs → Every P (take n xs)
every_take P zero xs h = tt
every_take P (suc n) [] h = tt
every_take P (suc n) (x ∷ xs) h = (h.0, every_take P n xs h.1)

record Found {A : Type 0} (P : A → Type 0) (test : A → Bool) : Type 0 where
  item : A
  passes_test : test item ≡ true
  has : P item

found : {A : Type 0} (P : A → Type 0) (test : A → Bool) (xs : List A) → list_any test xs ≡ true → Every P xs → Found P test
found P test [] e h = cc e
found P test (x ∷ xs) e h =
    elim (or_true (test x) (list_any test xs) e) [
      | inl here ↦ record { item = x; passes_test = here; has = h.0 }
      | inr there ↦ found P test xs there h.1
    ]

-- ---- the factors of the box

record IsFactor (f : Pure) (c : ℤ) : Type 0 where
  size : IsAtMost (pos (2 ^ 31)) c
  sign : (pos 0 ≤ℤ c) ⊎ IsEquation f

abbrev IsFew : ℤ → Type 0
IsFew c = IsAtMost (pos (2 ^ 31)) c × IsAtMost (pos (2 ^ 31)) (neg_ℤ c) × (pos 0 ≤ℤ c)

few_size : (c : ℤ) → is_within (2 ^ 31) c ≡ true → is_within (2 ^ 31) (neg_ℤ c) ≡ true → int_le (pos 0) c ≡ true → IsFew c
few_size c e f g = (is_at_most (2 ^ 31) c e, is_at_most (2 ^ 31) (neg_ℤ c) f, le_z_yes (passes (int_le (pos 0) c) g))

are_few : Every IsFew few
are_few = (few_size (pos 1) refl refl refl, (few_size (pos 2) refl refl refl, (few_size (pos 3) refl refl refl, (few_size (pos 4) refl refl refl, tt))))

equation : (f : Pure) → is_equation f ≡ true → IsEquation f
unfolding turned IsEquation
equation (Eq s t) e = tt
equation _ e = cc e

every_positive : (f : Pure) (xs : List ℤ) → Every IsFew xs → Every (IsFactor f) xs
every_positive f [] h = tt
every_positive f (c ∷ cs) h = (record { size = h.0.0; sign = inl h.0.2 }, every_positive f cs h.1)

every_negative : (f : Pure) (b : Bool) → is_equation f ≡ b → Every (IsFactor f) (if b then map neg_ℤ few else [])
every_negative f true e = every_map IsFew (IsFactor f) neg_ℤ few (λ c h. record { size = h.1; sign = inr (equation f e) }) are_few
every_negative f false e = tt

every_factor : (f : Pure) → Every (IsFactor f) (factors f)
every_factor f = every_append (IsFactor f) few (if is_equation f then map neg_ℤ few else []) (every_positive f few are_few) (every_negative f (is_equation f) refl)

record Fit (fs : List Pure) (cs : List ℤ) : Type 0 where
  each : length cs ≡ length fs
  sizes : AllByRecursion (IsAtMost (pos (2 ^ 31))) cs
  signs : HaveSigns cs fs

fit_more : (f : Pure) (fs : List Pure) (c : ℤ) (cs : List ℤ) → IsFactor f c → Fit fs cs → Fit (f ∷ fs) (c ∷ cs)
fit_more f fs c cs h k = record { each = ap suc k.each; sizes = (h.size, k.sizes); signs = (h.sign, k.signs) }

unused : (f : Pure) → IsFactor f (pos 0)
unused f = record { size = is_at_most (2 ^ 31) (pos 0) refl; sign = inl (le_z_yes tt) }

every_choice : (n : ℕ) (fs : List Pure) → Every (Fit fs) (choices n fs)
every_choice n [] = (record { each = refl; sizes = tt; signs = tt }, tt)
every_choice zero (f ∷ fs) = every_map (Fit fs) (Fit (f ∷ fs)) (λ cs. pos 0 ∷ cs) (choices zero fs) (λ cs h. fit_more f fs (pos 0) cs (unused f) h) (every_choice zero fs)
every_choice (suc n) (f ∷ fs) =
    every_append (Fit (f ∷ fs)) (map (λ cs. pos 0 ∷ cs) (choices (suc n) fs)) (flat_map (λ c. map (λ cs. c ∷ cs) (choices n fs)) (factors f))
    (every_map (Fit fs) (Fit (f ∷ fs)) (λ cs. pos 0 ∷ cs) (choices (suc n) fs) (λ cs h. fit_more f fs (pos 0) cs (unused f) h) (every_choice (suc n) fs))
    (every_flat (IsFactor f) (Fit (f ∷ fs)) (λ c. map (λ cs. c ∷ cs) (choices n fs)) (factors f)
    (λ c h. every_map (Fit fs) (Fit (f ∷ fs)) (λ cs. c ∷ cs) (choices n fs) (λ cs k. fit_more f fs c cs h k) (every_choice n fs))
    (every_factor f))

-- the negated conclusion is used like a fact that is no equation
every_box : (g : Pure) (fs : List Pure) → Every (Fit (nope g ∷ fs)) (box fs)
every_box g fs =
    every_flat (Fit fs) (Fit (nope g ∷ fs)) (λ cs. map (λ c. c ∷ cs) (pos 0 ∷ few)) (choices 3 fs)
    (λ cs h. every_map (IsFactor (nope g)) (Fit (nope g ∷ fs)) (λ c. c ∷ cs) (pos 0 ∷ few) (λ c k. fit_more (nope g) fs c cs k h) (unused (nope g), every_positive (nope g) few are_few))
    (every_choice 3 fs)

-- ---- what is looked at

record Usable (p : Pure) : Type 0 where
  is : IsAtom p
  small_terms : AreSmall p

usable : (p : Pure) → is_usable p ≡ true → Usable p
usable p e = let g = two_true (is_atom p) (are_small p) e in record { is = g.0; small_terms = small_pure p g.1 }

one_more : (p : Pure) (b : Bool) (ps : List Pure) → is_usable p ≡ b → Every Usable ps → Every Usable (cond b (p ∷ ps) ps)
one_more p true ps e h = (usable p e, h)
one_more p false ps e h = h

every_usable : (ps : List Pure) → Every Usable (filter is_usable ps)
every_usable [] = tt
every_usable (p ∷ ps) = one_more p (is_usable p) (filter is_usable ps) refl (every_usable ps)

all_atoms : (fs : List Pure) → Every Usable fs → AllByRecursion IsAtom fs
all_atoms [] h = tt
all_atoms (f ∷ fs) h = (h.0.is, all_atoms fs h.1)

all_small : (fs : List Pure) → Every Usable fs → AllByRecursion AreSmall fs
all_small [] h = tt
all_small (f ∷ fs) h = (h.0.small_terms, all_small fs h.1)

-- ---- certificates

shown : (cs : List ℤ) (fs : List Pure) (g : Pure) → Every Usable (g ∷ fs) → Fit (nope g ∷ fs) cs → adds_up cs fs g ≡ true → IsShown cs fs g
shown cs fs g h k e =
    let s = two_true (list_all (λ i. int_eq (weighted (λ t. coefficient_of t i) cs (forms fs g)) (pos 0)) (all_indices (forms fs g))) (int_le (pos 1) (weighted constant_of cs (forms fs g))) e in
    record {
      atoms = all_atoms (g ∷ fs) h;
      small = all_small (g ∷ fs) h;
      each = k.each;
      sizes = k.sizes;
      signs = k.signs;
      variables = λ i. no_variable_left cs (forms fs g) i s.0;
      constant = le_z_yes (passes (int_le (pos 1) (weighted constant_of cs (forms fs g))) s.1);
    }

record Certified (fs : List Pure) (g : Pure) : Type 0 where
  factors : List ℤ
  shows : IsShown factors fs g

certified : (fs : List Pure) (g : Pure) → Every Usable (g ∷ fs) → list_any (λ cs. adds_up cs fs g) (box fs) ≡ true → Certified fs g
certified fs g h e =
    let f = found (Fit (nope g ∷ fs)) (λ cs. adds_up cs fs g) (box fs) e (every_box g fs) in
    record { factors = f.item; shows = shown f.item fs g h f.has f.passes_test }

turned_usable : (s t : Term) → Usable (Eq s t) → Usable (Eq t s)
unfolding atom AreSmall
turned_usable s t u = record { is = refl; small_terms = (u.small_terms.1, u.small_terms.0) }

record Seconded (fs : List Pure) (g : Pure) : Type 0 where
  factors : List ℤ
  is : HasSecond factors fs g

seconded : (fs : List Pure) (g : Pure) → Every Usable fs → Usable g → list_all (λ h. list_any (λ cs. adds_up cs fs h) (box fs)) (other_reading (turned g)) ≡ true → Seconded fs g
unfolding turned HasSecond
seconded fs (Eq s t) h u e =
    let g = two_true (list_any (λ cs. adds_up cs fs (Eq t s)) (box fs)) true e in
    let c = certified fs (Eq t s) (turned_usable s t u, h) g.0 in
    record { factors = c.factors; is = c.shows }
seconded fs True h u e = record { factors = []; is = refl }
seconded fs False h u e = record { factors = []; is = refl }
seconded fs (Le s t) h u e = record { factors = []; is = refl }
seconded fs (Lt s t) h u e = record { factors = []; is = refl }
seconded fs (both a b) h u e = record { factors = []; is = refl }
seconded fs (either a b) h u e = record { factors = []; is = refl }
seconded fs (nope a) h u e = record { factors = []; is = refl }

pub box_is_rule : BoxIsRule
box_is_rule facts g vars le a s e =
    let t = two_true (list_any (λ cs. adds_up cs (atoms facts) g) (box (atoms facts))) (list_all (λ h. list_any (λ cs. adds_up cs (atoms facts) h) (box (atoms facts))) (other_reading (turned g))) e in
    let u : Usable g = record { is = a; small_terms = small_pure g s } in
    let us = every_take Usable 64 (filter is_usable (flat_map (λ f. conjuncts f.pure) facts)) (every_usable (flat_map (λ f. conjuncts f.pure) facts)) in
    let c = certified (atoms facts) g (u, us) t.0 in
    let d = seconded (atoms facts) g us u t.1 in
    record {
      first = c.factors;
      second = d.factors;
      factors = record { fs = atoms facts; g = g; left_is = refl; right_is = refl; few = le; first = c.shows; second = d.is };
    }
