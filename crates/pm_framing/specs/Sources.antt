-- What is framed by its name, and where it stands in the star of its goal.
use Rattle.std.specs.Prelude.{◌≡◌, ℕ, ◌<◌, Bool, true, false, length, Option, Some, None, option_map}
use Rattle.pm_logic.specs.declared.formula.Formula.{Formula}
use Rattle.pm_goal.specs.declared.goal.Goal.{Goal}
use Rattle.pm_goal.specs.declared.work.Held.{Held}
use Rattle.pm_goal.specs.declared.work.Work.{Work}
use Rattle.pm_goal.specs.Left.{of_kind}
use Rattle.pm_star.specs.Stars.{parts, shared, part_at, without}
use Rattle.pm_table.specs.Works.{Named, without_named, without_spat, work_of}
use Rattle.pm_table.specs.Terms.{held_as}
use Rattle.pm_framing.specs.declared.sources.Source.{Source}

-- the formula that the name stands for: of a fact p, ⌜p⌝
abbrev pub formula_of : Named → Goal → Option Formula
formula_of name goal = option_map (λ (h : Held). h.formula) (held_as name goal)

-- what stays stands before the spatial ones, and there is no spatial one of the name; what is used up is the only one of it
abbrev pub IsUsed : Goal → Named → ℕ → Bool → Type 0
IsUsed goal name place true = (place < length (shared goal)) × (without_spat name goal ≡ goal)
IsUsed goal name place false = (parts (without_named name goal) ≡ without (parts goal) place) × (without_spat name goal ≡ without_named name goal)

pub record IsSource (goal : Goal) (name : Named) (s : Source) : Type 0 where
  pub names : formula_of name goal ≡ Some s.formula
  pub within : s.place < length (parts goal)
  pub is : part_at (parts goal) s.place ≡ of_kind s.kind s.formula
  pub used : IsUsed goal name s.place s.stays

abbrev pub Finds : Goal → Named → Option Source → Type 0
Finds goal name None = held_as name goal ≡ None
Finds goal name (Some s) = IsSource goal name s

-- the work in which a spatial one of the name is used up
abbrev pub spent : Work → Named → Work
spent w name = work_of (without_spat name w.goal) w.held
