-- Parts of a goal by name.
use Rattle.std.specs.Prelude.{◌≡◌, ℕ, ◌+◌, ◌<◌, true, List, length, position, Option, Some, option_map}
use Rattle.std.specs.Str.{bytes_eq}
use Rattle.pm_goal.specs.declared.goal.Hyp.{Hyp}
use Rattle.pm_goal.specs.declared.goal.Fact.{Fact}
use Rattle.pm_goal.specs.declared.goal.Goal.{Goal}
use Rattle.pm_goal.specs.Find.{first_of_two}
use Rattle.pm_star.specs.Stars.{parts, part_at, without}
use Rattle.pm_table.specs.Works.{Named, has_hyp_or_fact, without_named}
use Rattle.pm_table.specs.Basic.{reverted}

abbrev pub hyp_place : Named → List Hyp → Option ℕ
hyp_place name hs = position (λ h. bytes_eq name h.name) hs

abbrev pub fact_place : Named → List Fact → Option ℕ
fact_place name fs = position (λ f. bytes_eq name f.name) fs

-- the place in the star of a goal, where facts come first and spatial hypotheses last
abbrev pub place_named : Named → Goal → Option ℕ
place_named name goal =
    first_of_two (option_map (λ i. length goal.pures + length goal.ints + i) (hyp_place name goal.spats))
    (first_of_two (option_map (λ i. length goal.pures + i) (hyp_place name goal.ints))
    (fact_place name goal.pures))

-- the hypothesis or fact of the name stands at the place
pub record IsPart (name : Named) (goal : Goal) (n : ℕ) : Type 0 where
  pub within : n < length (parts goal)
  pub has : has_hyp_or_fact goal name ≡ true
  pub reverted : reverted name goal ≡ Some (part_at (parts goal) n)
  pub others : parts (without_named name goal) ≡ without (parts goal) n
