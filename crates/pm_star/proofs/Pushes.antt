-- Lists that are built from their first part on.
use Rattle.std.proofs.Common.{◌≡◌, ℕ, zero, suc, ◌+◌, ◌<◌, ◌≤◌, List, [], ◌∷◌, ◌++◌, length, take, map, get_or, refl, ◌∙◌, ap, subst, arith, Option, Some, None, sym}
use Rattle.std.specs.Prelude.{slice_get, option_map}
use Rattle.std.proofs.lemmas.List.{append-nil, append_assoc, take_all}
use Rattle.pm_logic.specs.declared.formula.Formula.{Formula}

-- the parts of the list's first i items, behind what was there
pub record IsPushed {A : Type 0} (part : A → Formula) (list : List A) (i : ℕ) (start out : List Formula) : Type 0 where
  pub within : i ≤ length list
  pub is : out ≡ start ++ map part (take i list)

pub pushed_none : {A : Type 0} (part : A → Formula) (list : List A) (start : List Formula) → IsPushed part list 0 start start
pushed_none part list start = record { within = omega arith; is = sym (append-nil start) }

-- the parts of one item more
more_parts : {A : Type 0} (part : A → Formula) (list : List A) (i : ℕ) (x : A) → slice_get list i ≡ Some x → map part (take (suc i) list) ≡ map part (take i list) ++ part x ∷ []
more_parts part [] i x at = absurd cc
more_parts part (y ∷ list) zero x at = ap (λ a. part a ∷ []) (let same : y ≡ x = cc in same)
more_parts part (y ∷ list) (suc i) x at = ap (λ l. part y ∷ l) (more_parts part list i x at)

found_within : {A : Type 0} (list : List A) (i : ℕ) (x : A) → slice_get list i ≡ Some x → i < length list
found_within [] i x at = absurd cc
found_within (y ∷ list) zero x at = omega arith
found_within (y ∷ list) (suc i) x at = omega (arith, found_within list i x at)

pushed_at : {A : Type 0} (part : A → Formula) (list : List A) (i : ℕ) (x : A) (start out more : List Formula) → slice_get list i ≡ Some x → IsPushed part list i start out → more ≡ out ++ part x ∷ [] → IsPushed part list (suc i) start more
pushed_at part list i x start out more at s e = record {
  within = omega (arith, found_within list i x at);
  is = e ∙ ap (λ l. l ++ part x ∷ []) s.is ∙ append_assoc start (map part (take i list)) (part x ∷ []) ∙ ap (λ l. start ++ l) (sym (more_parts part list i x at));
}

-- the item at a place, by the part of it that is looked up
pub pushed_by : {A F : Type 0} (field : A → F) (of : F → Formula) (list : List A) (i j : ℕ) (found : F) (start out more : List Formula) → j ≡ i + 1 → IsPushed (λ x. of (field x)) list i start out → Some found ≡ option_map field (slice_get list i) → more ≡ out ++ of found ∷ [] → IsPushed (λ x. of (field x)) list j start more
pushed_by {A} {F} field of list i j found start out more next s at e =
    let step : suc i ≡ j = omega (arith, next) in
    subst (λ (n : ℕ). IsPushed (λ x. of (field x)) list n start more) step (go (slice_get list i) refl at)
  where
    go : (o : Option A) → slice_get list i ≡ o → Some found ≡ option_map field o → IsPushed (λ x. of (field x)) list (suc i) start more
    go None is found_is = absurd cc
    go (Some x) is found_is = let same : found ≡ field x = cc in pushed_at (λ x. of (field x)) list i x start out more is s (e ∙ ap (λ f. out ++ of f ∷ []) same)

item_at : {A : Type 0} (list : List A) (i : ℕ) (x : A) → i < length list → x ≡ get_or list i x → slice_get list i ≡ Some x
item_at [] i x lt at = absurd (omega (arith, lt))
item_at (y ∷ list) zero x lt at = ap Some (sym at)
item_at (y ∷ list) (suc i) x lt at = item_at list i x (omega (arith, lt)) at

pub pushed_item : {A : Type 0} (part : A → Formula) (list : List A) (i j : ℕ) (x : A) (start out more : List Formula) → j ≡ i + 1 → i < length list → x ≡ get_or list i x → IsPushed part list i start out → more ≡ out ++ part x ∷ [] → IsPushed part list j start more
pushed_item part list i j x start out more next lt at s e =
    let step : suc i ≡ j = omega (arith, next) in
    subst (λ (n : ℕ). IsPushed part list n start more) step (pushed_at part list i x start out more (item_at list i x lt at) s e)

-- within the list each place has an item
pub looked_up : {A F : Type 0} (field : A → F) (list : List A) (i : ℕ) → i < length list → None ≡ option_map field (slice_get list i) → ⊥
looked_up field [] i lt e = absurd (omega (arith, lt))
looked_up field (x ∷ list) zero lt e = absurd cc
looked_up field (x ∷ list) (suc i) lt e = looked_up field list i (omega (arith, lt)) e

pub pushed_all : {A : Type 0} (part : A → Formula) (list : List A) (i : ℕ) (start out : List Formula) → length list ≤ i → IsPushed part list i start out → out ≡ start ++ map part list
pushed_all part list i start out le s = s.is ∙ ap (λ l. start ++ map part l) (take_all i list le)
