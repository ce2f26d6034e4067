-- Contexts as the entries of a map from names.
use Rattle.std.proofs.Common.{take, add-one, zero, suc, ◌≡◌, ◌++◌, ℕ, ◌+◌, Bool, true, false, List, [], ◌∷◌, map, refl, sym, ◌∙◌, ap, ap₂, subst, cond, Option, Some, None}
use Rattle.std.specs.Prelude.{position, slice_get}
use Rattle.std.specs.List.{position_from, IsDistinct, AllByRecursion}
use Rattle.std.specs.Str.{bytes_eq}
use Rattle.std.specs.Map.{keys_of, lookup}
use Rattle.std.proofs.lemmas.Iterator.Adapters.{position_from-zero}
use Rattle.std.proofs.lemmas.Slice.Eq.{bytes_eq-Decides}
use Rattle.indexmap.specs.IndexMap.{IndexMap, insert_entry}
use Rattle.indexmap.proofs.CallerLemmas.{insert_entry-new}

module _ {A B : Type 0} (name : List ℕ) (item : List ℕ × A → B) (name_of : B → List ℕ) (same : (e : List ℕ × A) → name_of (item e) ≡ e.0) where
  from_entry : (i : ℕ) (es : List (List ℕ × A)) → position_from (bytes_eq name) i (keys_of es) ≡ position_from (λ (x : B). bytes_eq name (name_of x)) i (map item es)
  from_entry i [] = refl
  from_entry i (e ∷ es) = ap₂ (λ b r. cond b (Some i) r) (sym (ap (bytes_eq name) (same e))) (from_entry (i + 1) es)

  -- the place of a name among the entries is its place among what they stand for
  pub place_of_entry : (es : List (List ℕ × A)) → position (bytes_eq name) (keys_of es) ≡ position (λ (x : B). bytes_eq name (name_of x)) (map item es)
  place_of_entry es = position_from-zero (bytes_eq name) (keys_of es) ∙ from_entry 0 es ∙ sym (position_from-zero (λ (x : B). bytes_eq name (name_of x)) (map item es))

absent_step : {A : Type 0} (b : Bool) (i : ℕ) (x : A) (r : Option ℕ) (o : Option A) → (r ≡ None → o ≡ None) → cond b (Some i) r ≡ None → cond b (Some x) o ≡ None
absent_step true i x r o f e = absurd cc
absent_step false i x r o f e = f e

absent_from : {A : Type 0} (name : List ℕ) (i : ℕ) (es : List (List ℕ × A)) → position_from (bytes_eq name) i (keys_of es) ≡ None → lookup (bytes_eq name) es ≡ None
absent_from name i [] h = refl
absent_from name i (e ∷ es) h = absent_step (bytes_eq name e.0) i e.1 (position_from (bytes_eq name) (i + 1) (keys_of es)) (lookup (bytes_eq name) es) (absent_from name (i + 1) es) h

-- a name that isn't among the entries has no value there
pub absent_entry : {A : Type 0} (name : List ℕ) (es : List (List ℕ × A)) → position (bytes_eq name) (keys_of es) ≡ None → lookup (bytes_eq name) es ≡ None
absent_entry name es h = absent_from name 0 es (sym (position_from-zero (bytes_eq name) (keys_of es)) ∙ h)

-- ---- copies

all_at : {A : Type 0} (P : List ℕ → Type 0) (es : List (List ℕ × A)) (i : ℕ) (e : List ℕ × A) → slice_get es i ≡ Some e → AllByRecursion P (keys_of es) → P e.0
all_at P [] i e at h = absurd cc
all_at P (x ∷ es) zero e at h = let same : x ≡ e = cc in subst (λ (y : List ℕ × _). P y.0) same h.0
all_at P (x ∷ es) (suc i) e at h = all_at P es i e at h.1

other_way : (a b : List ℕ) → bytes_eq a b ≡ false → bytes_eq b a ≡ false
other_way a b differs = go (bytes_eq b a) refl
  where
    go : (r : Bool) → bytes_eq b a ≡ r → bytes_eq b a ≡ false
    go false e = e
    go true e = absurd (let same : bytes_eq a b ≡ true = (bytes_eq-Decides a b).1 (sym ((bytes_eq-Decides b a).0 e)) in let clash : true ≡ false = sym same ∙ differs in cc)

absent_before : {A : Type 0} (es : List (List ℕ × A)) (i : ℕ) (e : List ℕ × A) → IsDistinct bytes_eq (keys_of es) → slice_get es i ≡ Some e → lookup (bytes_eq e.0) (take i es) ≡ None
unfolding IsDistinct
absent_before [] i e h at = absurd cc
absent_before (x ∷ es) zero e h at = refl
absent_before (x ∷ es) (suc i) e h at =
    let differs : bytes_eq e.0 x.0 ≡ false = other_way x.0 e.0 (all_at (λ y. bytes_eq x.0 y ≡ false) es i e at h.0) in
    ap (λ b. cond b (Some x.1) (lookup (bytes_eq e.0) (take i es))) differs ∙ absent_before es i e h.1 at

taken_more : {A : Type 0} (es : List A) (i : ℕ) (e : A) → slice_get es i ≡ Some e → take (i + 1) es ≡ take i es ++ e ∷ []
taken_more [] i e at = absurd cc
taken_more (x ∷ es) zero e at = let same : x ≡ e = cc in ap (λ y. y ∷ []) same
taken_more (x ∷ es) (suc i) e at = rw add-one (ap (λ ys. x ∷ ys) (rw add-one at (taken_more es i e at)))

-- the entries of a map with names that differ are copied one by one
pub copied_more : {A S : Type 0} (out : IndexMap (List ℕ) A S) (es new : List (List ℕ × A)) (i : ℕ) (k : List ℕ) (v : A) → out.entries ≡ take i es → IsDistinct bytes_eq (keys_of es) → slice_get es i ≡ Some (k, v) → new ≡ insert_entry bytes_eq out.entries k v → new ≡ take (i + 1) es
copied_more out es new i k v taken distinct at is =
    let none : lookup (bytes_eq k) out.entries ≡ None = ap (lookup (bytes_eq k)) taken ∙ absent_before es i (k, v) distinct at in
    is ∙ insert_entry-new bytes_eq out k v none ∙ ap (λ list. list ++ (k, v) ∷ []) taken ∙ sym (taken_more es i (k, v) at)
