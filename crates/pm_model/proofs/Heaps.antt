-- Heaps are resources, and join as resources do.
use Rattle.std.proofs.Common.{◌≡◌, ℕ, suc, ◌+◌, ◌≤◌, List, [], ◌∷◌, ℤ, nat_abs, refl, sym, ap, ap₂, ◌∙◌, subst, arith}
use lib.IntN.{ℤ_discrete}
use Rattle.pm_model.specs.declared.heap.Cell.{Cell}
use Rattle.pm_model.specs.Resource.{Empty, IsValid, Res, plus, Joins}
use Rattle.pm_model.specs.Heap.{content_at, IsHeap, IsResource, AreTogether, Clash, HeapLaws}
use Rattle.pm_model.proofs.Merge.{at_first, at_others, compatible_along}

valid_at : (cells : List Cell) → IsHeap cells → (l : ℤ) → IsValid (content_at cells l)
unfolding content_at
valid_at [] h l = tt
valid_at (c ∷ cells) h l = elim (ℤ_discrete c.loc l) [
  | yes e ↦ subst IsValid (sym (at_first c cells l e)) h.0
  | no n ↦ subst IsValid (sym (at_others c cells l n)) (valid_at cells h.2 l)
]

-- above the size of each location
bound_of : List Cell → ℕ
bound_of [] = 0
bound_of (c ∷ cells) = suc (nat_abs c.loc) + bound_of cells

empty_beyond : (cells : List Cell) (l : ℤ) → bound_of cells ≤ nat_abs l → content_at cells l ≡ Empty
unfolding content_at bound_of
empty_beyond [] l h = refl
empty_beyond (c ∷ cells) l h =
    at_others c cells l (λ e. let same : nat_abs c.loc ≡ nat_abs l = ap nat_abs e in absurd (omega arith)) ∙ empty_beyond cells l (omega arith)

resource_of : (cells : List Cell) → IsHeap cells → Res
resource_of cells h = record { at = content_at cells; valid = valid_at cells h; bound = bound_of cells; beyond = empty_beyond cells }

are_resources : (cells : List Cell) → IsHeap cells → (r : Res) × IsResource cells r
unfolding resource_of
are_resources cells h = (resource_of cells h, record { contents = λ l. refl })

together_join : (a b c : List Cell) (r s t : Res) → IsResource a r → IsResource b s → IsResource c t → AreTogether a b c → Joins r s t
together_join a b c r s t p q o h = record {
  fits = λ l. compatible_along (p.contents l) (q.contents l) (h.fits l);
  sums = λ l. o.contents l ∙ h.sums l ∙ ap₂ plus (sym (p.contents l)) (sym (q.contents l));
}

clash_apart : (a b : List Cell) (r s t : Res) → IsResource a r → IsResource b s → Clash a b → ¬ Joins r s t
clash_apart a b r s t p q k j = k.apart (compatible_along (sym (p.contents k.at)) (sym (q.contents k.at)) (j.fits k.at))

pub heap_laws : HeapLaws
heap_laws = record { resource = are_resources; together = together_join; clash = clash_apart }
