-- One name more in an index.
use Rattle.std.proofs.Common.{refl, [], ◌∷◌, Bool, true, false, subst, IfSome, option_map, ◌≤◌, arith, ◌≡◌, ℕ, ◌+◌, ◌<◌, cond, List, length, drop, get_or, Option, Some, sym, ◌∙◌, ap}
use Rattle.std.specs.List.{position_from}
use Rattle.std.specs.Str.{bytes_eq}
use Rattle.std.proofs.lemmas.List.{drop_more}
use Rattle.pm_name_sets.proofs.Names.{either_side}

-- the name at place i goes in front of the later ones
pub in_front : (names : List (List ℕ)) (i : ℕ) (d : List ℕ) (name : List ℕ) (before now : Option ℕ) → i < length names → before ≡ position_from (bytes_eq name) (i + 1) (drop (i + 1) names) → now ≡ cond (bytes_eq (get_or names i d) name) (Some i) before → now ≡ position_from (bytes_eq name) i (drop i names)
in_front names i d name before now within were is =
    is
    ∙ ap (λ b. cond b (Some i) before) (either_side (get_or names i d) name)
    ∙ ap (λ later. cond (bytes_eq name (get_or names i d)) (Some i) later) were
    ∙ ap (λ list. position_from (bytes_eq name) i list) (sym (drop_more names i d within))

counted_step : (b : Bool) (from i k : ℕ) (later now : Option ℕ) → from + i ≡ k → option_map (λ n. from + n) later ≡ now → option_map (λ n. from + n) (cond b (Some i) later) ≡ cond b (Some k) now
counted_step true from i k later now e h = ap (λ n. Some n) e
counted_step false from i k later now e h = h

counted : (p : List ℕ → Bool) (from i k : ℕ) (names : List (List ℕ)) → from + i ≡ k → option_map (λ n. from + n) (position_from p i names) ≡ position_from p k names
counted p from i k [] e = refl
counted p from i k (name ∷ names) e = counted_step (p name) from i k _ _ e (counted p from (i + 1) (k + 1) names (omega arith))

-- places that are counted from 0, and from another number on
pub counted_on : (p : List ℕ → Bool) (from : ℕ) (names : List (List ℕ)) → option_map (λ n. from + n) (position_from p 0 names) ≡ position_from p from names
counted_on p from names = counted p from 0 from names (omega arith)

within_step : (b : Bool) (i n : ℕ) (later : Option ℕ) → i < n → IfSome later (λ k. k < n) → IfSome (cond b (Some i) later) (λ k. k < n)
within_step true i n later h g = h
within_step false i n later h g = g

within_from : (p : List ℕ → Bool) (i n : ℕ) (names : List (List ℕ)) → i + length names ≤ n → IfSome (position_from p i names) (λ k. k < n)
within_from p i n [] h = tt
within_from p i n (name ∷ names) h = within_step (p name) i n _ (omega arith) (within_from p (i + 1) n names (omega arith))

pub within : (p : List ℕ → Bool) (from : ℕ) (names : List (List ℕ)) → IfSome (position_from p from names) (λ k. k < from + length names)
within p from names = within_from p from (from + length names) names (omega arith)

-- what is found at places from 0, with the places counted from another number on
pub found_from : (p : List ℕ → Bool) (from : ℕ) (names : List (List ℕ)) (found : Option ℕ) → found ≡ position_from p 0 names
    → (option_map (λ n. from + n) found ≡ position_from p from names) × IfSome (option_map (λ n. from + n) found) (λ k. k < from + length names)
found_from p from names found is =
    let same : option_map (λ n. from + n) found ≡ position_from p from names = ap (λ r. option_map (λ n. from + n) r) is ∙ counted_on p from names in
    let P : Option ℕ → Type 0 = λ r. IfSome r (λ k. k < from + length names) in
    (same, subst P (sym same) (within p from names))
