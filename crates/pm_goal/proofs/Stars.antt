-- Stars that are built from their last part on.
use Rattle.std.proofs.Common.{◌≡◌, ℕ, zero, suc, ◌-◌, ◌<◌, ◌≤◌, List, [], ◌∷◌, length, drop, map, get_or, refl, ◌∙◌, ap, arith, Option, Some, None, sym}
use Rattle.std.specs.Prelude.{slice_get, option_map}
use Rattle.pm_logic.specs.declared.formula.Formula.{Formula}
use Rattle.pm_logic.specs.declared.formula.Formula.TheViews as view
use Rattle.pm_goal.specs.Left.{star_onto}

-- the star of the list's items from i on
pub record IsStar {A : Type 0} (part : A → Formula) (list : List A) (i : ℕ) (end left : Formula) : Type 0 where
  pub within : i ≤ length list
  pub is : left ≡ star_onto (map part (drop i list)) end

pub star_none : {A : Type 0} (part : A → Formula) (list : List A) (end : Formula) → IsStar part list (length list) end end
unfolding star_onto
star_none part [] end = record { within = omega arith; is = refl }
star_none part (x ∷ list) end = record { within = omega arith; is = (star_none part list end).is }

star_more : {A : Type 0} (part : A → Formula) (list : List A) (i : ℕ) (x : A) (end left more : Formula) → i < length list → x ≡ get_or list i x → IsStar part list (suc i) end left → more ≡ view.Sep (part x) left → IsStar part list i end more
unfolding star_onto
star_more part [] i x end left more lt at s e = absurd (omega arith)
star_more part (y ∷ list) zero x end left more lt at s e = record { within = omega arith; is = e ∙ ap (λ l. view.Sep (part x) l) s.is ∙ ap (λ a. view.Sep (part a) (star_onto (map part list) end)) at }
star_more part (y ∷ list) (suc i) x end left more lt at s e = record { within = omega arith; is = (star_more part list i x end left more (omega arith) at (record { within = omega (arith, s.within); is = s.is }) e).is }

pub star_less : {A : Type 0} (part : A → Formula) (list : List A) (i : ℕ) (x : A) (end left more : Formula) → 0 < i → IsStar part list i end left → x ≡ get_or list (i - 1) x → more ≡ view.Sep (part x) left → IsStar part list (i - 1) end more
star_less part list zero x end left more some s at e = absurd (omega arith)
star_less part list (suc i) x end left more some s at e =
    let same : suc i - 1 ≡ i = omega arith in
    rw same (star_more part list i x end left more (omega (arith, s.within)) (rw same at at) s e)

-- the item at a place that is looked up
pub star_at : {A : Type 0} (part : A → Formula) (list : List A) (i : ℕ) (x : A) (end left more : Formula) → slice_get list i ≡ Some x → IsStar part list (suc i) end left → more ≡ view.Sep (part x) left → IsStar part list i end more
unfolding star_onto
star_at part [] i x end left more at s e = absurd cc
star_at part (y ∷ list) zero x end left more at s e = record { within = omega arith; is = e ∙ ap (λ l. view.Sep (part x) l) s.is ∙ ap (λ a. view.Sep (part a) (star_onto (map part list) end)) (let same : x ≡ y = cc in same) }
star_at part (y ∷ list) (suc i) x end left more at s e = record { within = omega (arith, s.within); is = (star_at part list i x end left more at (record { within = omega (arith, s.within); is = s.is }) e).is }

-- the item before a place, by the part of it that is looked up
pub star_by : {A F : Type 0} (field : A → F) (of : F → Formula) (list : List A) (i : ℕ) (found : F) (end left more : Formula) → 0 < i → IsStar (λ x. of (field x)) list i end left → Some found ≡ option_map field (slice_get list (i - 1)) → more ≡ view.Sep (of found) left → IsStar (λ x. of (field x)) list (i - 1) end more
star_by {A} {F} field of list zero found end left more some s at e = absurd (omega arith)
star_by {A} {F} field of list (suc i) found end left more some s at e =
    let same : suc i - 1 ≡ i = omega arith in
    rw same (go (slice_get list i) refl (rw same at at))
  where
    go : (o : Option A) → slice_get list i ≡ o → Some found ≡ option_map field o → IsStar (λ x. of (field x)) list i end more
    go None is found_is = absurd cc
    go (Some x) is found_is = let same : found ≡ field x = cc in star_at (λ x. of (field x)) list i x end left more is s (e ∙ ap (λ f. view.Sep (of f) left) same)

-- within the list each place has an item
pub looked_up : {A F : Type 0} (field : A → F) (list : List A) (i : ℕ) → i < length list → None ≡ option_map field (slice_get list i) → ⊥
looked_up field [] i lt e = omega arith
looked_up field (x ∷ list) zero lt e = absurd cc
looked_up field (x ∷ list) (suc i) lt e = looked_up field list i (omega arith) e
