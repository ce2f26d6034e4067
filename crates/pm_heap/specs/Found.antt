-- Spatial hypotheses by their names.
use Rattle.std.specs.Prelude.{◌≡◌, ℕ, Option, Some, None, insert, if◌then◌else◌}
use Rattle.std.specs.Str.{bytes_eq}
use Rattle.pm_logic.specs.declared.formula.Formula.{Formula}
use Rattle.pm_goal.specs.declared.goal.Hyp.{Hyp}
use Rattle.pm_goal.specs.declared.goal.Goal.{Goal}
use Rattle.pm_goal.specs.declared.work.Kind.TheVariants as kind
use Rattle.pm_star.specs.Stars.{parts, without}
use Rattle.pm_hand.specs.Looking.{IsHypAt}
use Rattle.pm_table.specs.Works.{Named, hyp, hyp_named}
use Rattle.pm_table.specs.Heap.{put}
use Rattle.pm_heap.specs.declared.finding.Spatial.{Spatial}

-- the name is that of a spatial hypothesis at the place in the star, where others can be put
pub record IsSpatialAt (goal : Goal) (name : Named) (place : ℕ) (f : Formula) : Type 0 where
  pub at : IsHypAt goal name place kind.Spat f
  pub puts : (g : Formula) → parts (put name g goal) ≡ insert (without (parts goal) place) place g

-- the spatial hypothesis of the name with its place in the star, or none where there is none
abbrev pub SpatialAt : Goal → Named → Option Spatial → Type 0
SpatialAt goal name None = hyp_named name goal.spats ≡ None
SpatialAt goal name (Some x) = IsSpatialAt goal name x.place x.formula

-- the hypothesis, which is this formula where it has the name
abbrev pub placed : Named → Formula → Hyp → Hyp
placed name f h = hyp h.name (if bytes_eq name h.name then f else h.formula)
