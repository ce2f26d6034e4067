-- The names of what stands in a context, in its order.
use Rattle.std.proofs.Common.{◌≡◌, ℕ, zero, suc, ◌+◌, ◌<◌, ◌≤◌, List, [], ◌∷◌, ◌++◌, length, take, map, refl, ◌∙◌, ap, subst, arith, Option, Some, None, sym}
use Rattle.std.specs.Prelude.{slice_get, option_map}
use Rattle.std.proofs.lemmas.List.{append_assoc}

-- the names of the first i items, behind what was there
pub record IsNamed {A N : Type 0} (name : A → N) (list : List A) (i : ℕ) (start out : List N) : Type 0 where
  pub within : i ≤ length list
  pub is : out ≡ start ++ map name (take i list)

more_names : {A N : Type 0} (name : A → N) (list : List A) (i : ℕ) (x : A) → slice_get list i ≡ Some x → map name (take (suc i) list) ≡ map name (take i list) ++ name x ∷ []
more_names name [] i x at = absurd cc
more_names name (y ∷ list) zero x at = ap (λ a. name a ∷ []) (let same : y ≡ x = cc in same)
more_names name (y ∷ list) (suc i) x at = ap (λ l. name y ∷ l) (more_names name list i x at)

found_within : {A : Type 0} (list : List A) (i : ℕ) (x : A) → slice_get list i ≡ Some x → i < length list
found_within [] i x at = absurd cc
found_within (y ∷ list) zero x at = omega arith
found_within (y ∷ list) (suc i) x at = omega (arith, found_within list i x at)

named_at : {A N : Type 0} (name : A → N) (list : List A) (i : ℕ) (x : A) (start out more : List N) → slice_get list i ≡ Some x → IsNamed name list i start out → more ≡ out ++ name x ∷ [] → IsNamed name list (suc i) start more
named_at name list i x start out more at s e = record {
  within = omega (arith, found_within list i x at);
  is = e ∙ ap (λ l. l ++ name x ∷ []) s.is ∙ append_assoc start (map name (take i list)) (name x ∷ []) ∙ ap (λ l. start ++ l) (sym (more_names name list i x at));
}

pub named_more : {A N : Type 0} (name : A → N) (list : List A) (i j : ℕ) (found : N) (start out more : List N) → j ≡ i + 1 → IsNamed name list i start out → Some found ≡ option_map name (slice_get list i) → more ≡ out ++ found ∷ [] → IsNamed name list j start more
named_more {A} {N} name list i j found start out more next s at e =
    let step : suc i ≡ j = omega (arith, next) in
    subst (λ (n : ℕ). IsNamed name list n start more) step (go (slice_get list i) refl at)
  where
    go : (o : Option A) → slice_get list i ≡ o → Some found ≡ option_map name o → IsNamed name list (suc i) start more
    go None is found_is = absurd cc
    go (Some x) is found_is = let same : found ≡ name x = cc in named_at name list i x start out more is s (e ∙ ap (λ f. out ++ f ∷ []) same)
