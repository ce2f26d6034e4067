-- Places in a table of predicates.
use Rattle.std.proofs.Common.{◌≡◌, ◌||◌, ap, ℕ, zero, suc, ◌<◌, List, [], ◌∷◌, length, refl, arith, Some}
use Rattle.std.specs.Prelude.{slice_get}
use Rattle.std.specs.List.{list_any}
use Rattle.std.specs.Option.{option_map}
use Rattle.std.specs.Str.{bytes_eq}
use Rattle.pm_logic.specs.declared.formula.Pred.{Pred}
use Rattle.pm_dtext.specs.Texts.{arities_of, names_of}

pub arity_listed : (preds : List Pred) (p : ℕ) → slice_get (arities_of preds) p ≡ option_map (λ q. q.arity) (slice_get preds p)
arity_listed [] p = refl
arity_listed (q ∷ preds) zero = refl
arity_listed (q ∷ preds) (suc p) = arity_listed preds p

pub place_within : {A : Type 0} (xs : List A) (p : ℕ) (x : A) → slice_get xs p ≡ Some x → p < length xs
place_within [] p x e = absurd cc
place_within (y ∷ xs) zero x e = omega arith
place_within (y ∷ xs) (suc p) x e = let i : p < length xs = place_within xs p x e in omega arith

pub taken_by : (preds : List Pred) (word : List ℕ) → list_any (λ x. bytes_eq x word) (names_of preds) ≡ list_any (λ q. bytes_eq q.name word) preds
taken_by [] word = refl
taken_by (q ∷ preds) word = ap (λ b. bytes_eq q.name word || b) (taken_by preds word)

pub all_told : (preds : List Pred) → length (arities_of preds) ≡ length preds
all_told [] = refl
all_told (q ∷ preds) = let i : length (arities_of preds) ≡ length preds = all_told preds in omega arith
