-- Heaps: resources as lists of cells.
use Rattle.std.specs.Prelude.{◌≡◌, List, [], ◌∷◌, ℤ, ◌<ℤ◌, if◌then◌else◌}
use Rattle.std.specs.Ordering.{int_eq}
use Rattle.pm_model.specs.declared.heap.Cell.{Cell}
use Rattle.pm_model.specs.Resource.{Content, Empty, Has, IsValid, Res, Compatible, plus, Joins}

-- what the cell says of its location
abbrev pub content_of : Cell → Content
content_of c = Has c.units c.val

-- what the cells say of a location
unfoldable pub content_at : List Cell → ℤ → Content
content_at [] l = Empty
content_at (c ∷ cells) l = if int_eq c.loc l then content_of c else content_at cells l

-- every cell's location is above l
abbrev pub Above : ℤ → List Cell → Type 0
Above l [] = Unit {0}
Above l (c ∷ cells) = (l <ℤ c.loc) × Above l cells

-- sorted by location, no location twice, and units are 1 to a whole
abbrev pub IsHeap : List Cell → Type 0
IsHeap [] = Unit {0}
IsHeap (c ∷ cells) = IsValid (content_of c) × Above c.loc cells × IsHeap cells

-- the cells are the resource
pub record IsResource (cells : List Cell) (r : Res) : Type 0 where
  pub contents : (l : ℤ) → r.at l ≡ content_at cells l

-- the heap c is a and b together
pub record AreTogether (a b c : List Cell) : Type 0 where
  pub heap : IsHeap c
  pub fits : (l : ℤ) → Compatible (content_at a l) (content_at b l)
  pub sums : (l : ℤ) → content_at c l ≡ plus (content_at a l) (content_at b l)

-- on a location of both, the values differ or the units are more than a whole together
pub record Clash (a b : List Cell) : Type 0 where
  pub at : ℤ
  pub apart : ¬ Compatible (content_at a at) (content_at b at)

-- A heap is a resource. Where heaps are together their resources join, and where they clash no resource is their resources together.
pub record HeapLaws : Type 0 where
  pub resource : (a : List Cell) → IsHeap a → (r : Res) × IsResource a r
  pub together : (a b c : List Cell) (r s t : Res) → IsResource a r → IsResource b s → IsResource c t → AreTogether a b c → Joins r s t
  pub clash : (a b : List Cell) (r s t : Res) → IsResource a r → IsResource b s → Clash a b → ¬ Joins r s t
