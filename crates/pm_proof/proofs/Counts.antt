-- Holes of a tree with two premises: those of the first, then those of the second.
use Rattle.std.proofs.Common.{ℕ, zero, suc, ◌-◌, ◌≡◌, ◌≤◌, ◌<◌, ◌⊎◌, inl, inr, sym, ap, refl, ◌∙◌, arith, List, [], ◌∷◌, ◌++◌, length, slice_get, Some, nat_lt, Bool, true, false, append_assoc, length-append}
use Rattle.std.proofs.lemmas.Bool.{ltb-true, ltb-false}
use Rattle.pm_rules.specs.declared.rules.Entail.{Entail}
use Rattle.pm_rules.specs.declared.rules.Rule.{Rule}
use Rattle.pm_proof.specs.Trees.{Tree, Hole, Axiom, First, Second, Both, holes_of, hole_count, filled, splice}

side_of : (i n : ℕ) (b : Bool) → nat_lt i n ≡ b → ((nat_lt i n ≡ true) × (i < n)) ⊎ ((nat_lt i n ≡ false) × (n ≤ i))
side_of i n true e = inl (e, ltb-true i n e)
side_of i n false e = inr (e, ltb-false i n e)

-- whether hole i is one of the first n
pub side : (i n : ℕ) → ((nat_lt i n ≡ true) × (i < n)) ⊎ ((nat_lt i n ≡ false) × (n ≤ i))
side i n = side_of i n (nat_lt i n) refl

pub fill_first : (r : Rule) (e : Entail) (a b x : Tree) (i : ℕ) → i < hole_count a → filled (Both r e a b) i x ≡ Both r e (filled a i x) b
fill_first r e a b x i h = elim (side i (hole_count a)) [
  | inl s ↦ rw s.0 refl
  | inr s ↦ absurd (omega (arith, s.1))
]

pub fill_second : (r : Rule) (e : Entail) (a b x : Tree) (i : ℕ) → hole_count a ≤ i → filled (Both r e a b) i x ≡ Both r e a (filled b (i - hole_count a) x)
fill_second r e a b x i h = elim (side i (hole_count a)) [
  | inl s ↦ absurd (omega (arith, s.1))
  | inr s ↦ rw s.0 refl
]

pub counted : (t : Tree) → length (holes_of t) ≡ hole_count t
counted (Hole e) = refl
counted (Axiom r e) = refl
counted (First r e a) = counted a
counted (Second r e b) = counted b
counted (Both r e a b) = length-append (holes_of a) (holes_of b) ∙ omega (arith, counted a, counted b)

pub get_left : (xs ys : List Entail) (i : ℕ) → i < length xs → slice_get (xs ++ ys) i ≡ slice_get xs i
get_left [] ys i h = absurd (omega arith)
get_left (x ∷ xs) ys zero h = refl
get_left (x ∷ xs) ys (suc i) h = get_left xs ys i (omega arith)

pub get_right : (xs ys : List Entail) (i : ℕ) → length xs ≤ i → slice_get (xs ++ ys) i ≡ slice_get ys (i - length xs)
get_right [] ys i h = let e : i ≡ i - 0 = omega arith in ap (slice_get ys) e
get_right (x ∷ xs) ys zero h = absurd (omega arith)
get_right (x ∷ xs) ys (suc i) h =
    let e : i - length xs ≡ suc i - suc (length xs) = omega arith in
    get_right xs ys i (omega arith) ∙ ap (slice_get ys) e

-- what is there is within the length
pub get_within : (xs : List Entail) (i : ℕ) (x : Entail) → slice_get xs i ≡ Some x → i < length xs
get_within [] i x h = absurd (cc)
get_within (y ∷ xs) zero x h = omega arith
get_within (y ∷ xs) (suc i) x h = omega (arith, get_within xs i x h)

pub splice_left : (xs ys zs : List Entail) (i : ℕ) → i < length xs → splice (xs ++ ys) i zs ≡ splice xs i zs ++ ys
splice_left [] ys zs i h = absurd (omega arith)
splice_left (x ∷ xs) ys zs zero h = sym (append_assoc zs xs ys)
splice_left (x ∷ xs) ys zs (suc i) h = ap (λ l. x ∷ l) (splice_left xs ys zs i (omega arith))

pub splice_right : (xs ys zs : List Entail) (i : ℕ) → length xs ≤ i → splice (xs ++ ys) i zs ≡ xs ++ splice ys (i - length xs) zs
splice_right [] ys zs i h = let e : i ≡ i - 0 = omega arith in ap (λ j. splice ys j zs) e
splice_right (x ∷ xs) ys zs zero h = absurd (omega arith)
splice_right (x ∷ xs) ys zs (suc i) h =
    let e : i - length xs ≡ suc i - suc (length xs) = omega arith in
    ap (λ l. x ∷ l) (splice_right xs ys zs i (omega arith) ∙ ap (λ j. xs ++ splice ys j zs) e)
