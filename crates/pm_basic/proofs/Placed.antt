-- The place of a variable's name among the names, its index, and the names without it.
use Rattle.std.proofs.Common.{◌≡◌, ℕ, suc, ◌+◌, ◌-◌, ◌<◌, ◌≤◌, Bool, true, false, cond, List, [], ◌∷◌, ◌++◌, length, take, drop, refl, sym, ◌∙◌, ap, subst, arith, Option, Some, None, bytes_eq}
use Rattle.std.specs.Prelude.{position}
use Rattle.std.specs.List.{position_from}
use Rattle.std.proofs.lemmas.Iterator.Adapters.{position_from-zero}
use Rattle.pm_table.specs.Works.{Named, index_named}
use Rattle.pm_table.specs.Basic.{names_but}

-- the names from place n on: what the place found is, the index and the other names
abbrev IsAt : ℕ → List Named → Option ℕ → List Named → Option ℕ → Type 0
IsAt n xs index others None = (index ≡ None) × (others ≡ xs)
IsAt n xs index others (Some p) = (n ≤ p) × (p < n + length xs) × (index ≡ Some (n + length xs - 1 - p)) × (others ≡ take (p - n) xs ++ drop (suc (p - n)) xs)

at_step : (n : ℕ) (x : Named) (xs : List Named) (index : Option ℕ) (others : List Named) (b : Bool) (found : Option ℕ) → IsAt (n + 1) xs index others found
    → IsAt n (x ∷ xs) (cond b (Some (length xs)) index) (cond b xs (x ∷ others)) (cond b (Some n) found)
at_step n x xs index others true found h =
    let none : n - n ≡ 0 = omega arith in
    let low : n + suc (length xs) - 1 - n ≡ length xs = omega arith in
    (omega arith, omega arith, ap Some (sym low), rw none refl)
at_step n x xs index others false None h = (h.0, ap (λ ys. x ∷ ys) h.1)
at_step n x xs index others false (Some p) h =
    let first : n + 1 ≤ p = h.0 in
    let last : p < n + 1 + length xs = h.1 in
    let more : suc (p - (n + 1)) ≡ p - n = omega (arith, first) in
    let same : n + 1 + length xs - 1 - p ≡ n + suc (length xs) - 1 - p = omega arith in
    let rest : (x ∷ others) ≡ take (suc (p - (n + 1))) (x ∷ xs) ++ drop (suc (suc (p - (n + 1)))) (x ∷ xs) = ap (λ ys. x ∷ ys) h.3 in
    (omega (arith, first), omega (arith, last), h.2 ∙ ap Some same, subst (λ (m : ℕ). (x ∷ others) ≡ take m (x ∷ xs) ++ drop (suc m) (x ∷ xs)) more rest)

at_from : (name : Named) (n : ℕ) (xs : List Named) → IsAt n xs (index_named name xs) (names_but name xs) (position_from (λ x. bytes_eq name x) n xs)
at_from name n [] = (refl, refl)
at_from name n (x ∷ xs) = at_step n x xs (index_named name xs) (names_but name xs) (bytes_eq name x) (position_from (λ y. bytes_eq name y) (n + 1) xs) (at_from name (n + 1) xs)

at_place : (name : Named) (xs : List Named) (found : Option ℕ) → found ≡ position (λ x. bytes_eq name x) xs → IsAt 0 xs (index_named name xs) (names_but name xs) found
at_place name xs found e = subst (λ (o : Option ℕ). IsAt 0 xs (index_named name xs) (names_but name xs) o) (sym (e ∙ position_from-zero (λ x. bytes_eq name x) xs)) (at_from name 0 xs)

pub index_found : (name : Named) (xs : List Named) (p : ℕ) → Some p ≡ position (λ x. bytes_eq name x) xs → Some (length xs - 1 - p) ≡ index_named name xs
index_found name xs p e = let h = at_place name xs (Some p) e in let same : length xs - 1 - p ≡ 0 + length xs - 1 - p = omega arith in ap Some same ∙ sym h.2

pub index_missing : (name : Named) (xs : List Named) → None ≡ position (λ x. bytes_eq name x) xs → None ≡ index_named name xs
index_missing name xs e = sym (at_place name xs None e).0

pub place_within : (name : Named) (xs : List Named) (p : ℕ) → Some p ≡ position (λ x. bytes_eq name x) xs → p < length xs
place_within name xs p e = let h = at_place name xs (Some p) e in let last : p < 0 + length xs = h.1 in omega (arith, last)

pub others_found : (name : Named) (xs out : List Named) (p : ℕ) → Some p ≡ position (λ x. bytes_eq name x) xs → out ≡ take p xs ++ drop (suc p) xs → out ≡ names_but name xs
others_found name xs out p e is = let h = at_place name xs (Some p) e in let none : p - 0 ≡ p = omega arith in is ∙ sym (subst (λ (m : ℕ). names_but name xs ≡ take m xs ++ drop (suc m) xs) none h.3)

pub others_all : (name : Named) (xs : List Named) → None ≡ position (λ x. bytes_eq name x) xs → xs ≡ names_but name xs
others_all name xs e = sym (at_place name xs None e).1

-- ---- a variable that there is

abbrev IsVar : List Named → List Named → Option ℕ → Type 0
IsVar xs ys None = Unit {0}
IsVar xs ys (Some i) = (length xs ≡ suc (length ys)) × (i < length xs)

var_step : (b : Bool) (x : Named) (xs ys : List Named) (o : Option ℕ) → IsVar xs ys o → IsVar (x ∷ xs) (cond b xs (x ∷ ys)) (cond b (Some (length xs)) o)
var_step true x xs ys o h = (refl, omega arith)
var_step false x xs ys None h = tt
var_step false x xs ys (Some i) h = let low : i < length xs = h.1 in (ap suc h.0, omega (arith, low))

is_var : (name : Named) (xs : List Named) → IsVar xs (names_but name xs) (index_named name xs)
is_var name [] = tt
is_var name (x ∷ xs) = var_step (bytes_eq name x) x xs (names_but name xs) (index_named name xs) (is_var name xs)

pub one_fewer : (name : Named) (xs : List Named) (i : ℕ) → index_named name xs ≡ Some i → length xs ≡ suc (length (names_but name xs))
one_fewer name xs i e = (subst (IsVar xs (names_but name xs)) e (is_var name xs)).0

pub index_low : (name : Named) (xs : List Named) (i : ℕ) → index_named name xs ≡ Some i → i < length xs
index_low name xs i e = (subst (IsVar xs (names_but name xs)) e (is_var name xs)).1
