-- A tree cut in two, filled below and put together again.
use Rattle.std.proofs.Common.{ℕ, zero, suc, ◌-◌, ◌≡◌, ◌≤◌, ◌<◌, inl, inr, ap, refl, ◌∙◌, arith}
use Rattle.pm_proof.specs.Trees.{Tree, Hole, Axiom, First, Second, Both, hole_count, filled, levels}
use Rattle.pm_proof.specs.Cuts.{part_at, index_at, rest_at}
use Rattle.pm_proof.proofs.Counts.{side, fill_first, fill_second}

-- the hole is one of the part's, and the part's place is one of the rest's
pub record Cut (t : Tree) (i n : ℕ) : Type 0 where
  pub low : index_at t i n ≤ i
  pub inside : index_at t i n < hole_count (part_at t i n)
  pub place : i - index_at t i n < hole_count (rest_at t i n)
  pub back : (x : Tree) → filled (rest_at t i n) (i - index_at t i n) (filled (part_at t i n) (index_at t i n) x) ≡ filled t i x

pub cut : (t : Tree) (i n : ℕ) → i < hole_count t → Cut t i n
cut t i zero h = record { low = omega arith; inside = h; place = omega arith; back = λ x. refl }
cut (Hole e) i (suc n) h = record { low = omega arith; inside = h; place = omega arith; back = λ x. refl }
cut (Axiom r e) i (suc n) h = absurd (omega arith)
cut (First r e a) i (suc n) h =
    let c = cut a i n h in
    record { low = c.low; inside = c.inside; place = c.place; back = λ x. ap (First r e) (c.back x) }
cut (Second r e b) i (suc n) h =
    let c = cut b i n h in
    record { low = c.low; inside = c.inside; place = c.place; back = λ x. ap (Second r e) (c.back x) }
cut (Both r e a b) i (suc n) h = elim (side i (hole_count a)) [
  | inl s ↦
      let c = cut a i n s.1 in
      record {
        low = rw s.0 c.low;
        inside = rw s.0 c.inside;
        place = rw s.0 (omega (arith, c.place));
        back = λ x. rw s.0 (fill_first r e (rest_at a i n) b (filled (part_at a i n) (index_at a i n) x) (i - index_at a i n) c.place ∙ ap (λ t. Both r e t b) (c.back x));
      }
  | inr s ↦
      let j : ℕ = i - hole_count a in
      let c = cut b j n (omega (arith, s.1)) in
      let le : hole_count a ≤ i - index_at b j n = omega (arith, s.1, c.low) in
      let at : i - index_at b j n - hole_count a ≡ j - index_at b j n = omega (arith, s.1, c.low) in
      record {
        low = rw s.0 (omega (arith, c.low));
        inside = rw s.0 c.inside;
        place = rw s.0 (omega (arith, c.place, at));
        back = λ x. rw s.0 (fill_second r e a (rest_at b j n) (filled (part_at b j n) (index_at b j n) x) (i - index_at b j n) le ∙ ap (Both r e a) (ap (λ m. filled (rest_at b j n) m (filled (part_at b j n) (index_at b j n) x)) at ∙ c.back x));
      }
]

no_higher : (t : Tree) (i n : ℕ) → levels (part_at t i n) ≤ levels t
no_higher t i zero = omega arith
no_higher (Hole e) i (suc n) = omega arith
no_higher (Axiom r e) i (suc n) = omega arith
no_higher (First r e a) i (suc n) = omega (arith, no_higher a i n)
no_higher (Second r e b) i (suc n) = omega (arith, no_higher b i n)
no_higher (Both r e a b) i (suc n) = elim (side i (hole_count a)) [
  | inl s ↦ rw s.0 (omega (arith, no_higher a i n))
  | inr s ↦ rw s.0 (omega (arith, no_higher b (i - hole_count a) n))
]

-- below a level the part is lower
pub lower : (t : Tree) (i n : ℕ) → 0 < n → 0 < levels t → levels (part_at t i n) < levels t
lower t i zero hn ht = absurd (omega arith)
lower (Hole e) i (suc n) hn ht = absurd (omega arith)
lower (Axiom r e) i (suc n) hn ht = absurd (omega arith)
lower (First r e a) i (suc n) hn ht = omega (arith, no_higher a i n)
lower (Second r e b) i (suc n) hn ht = omega (arith, no_higher b i n)
lower (Both r e a b) i (suc n) hn ht = elim (side i (hole_count a)) [
  | inl s ↦ rw s.0 (omega (arith, no_higher a i n))
  | inr s ↦ rw s.0 (omega (arith, no_higher b (i - hole_count a) n))
]
