-- Hypotheses that become others in their places.
use Rattle.std.specs.Prelude.{◌≡◌, ℕ, suc, ◌+◌, ◌<◌, ◌≤◌, [], ◌∷◌, length, set, Option, Some, None, Result}
use Rattle.pm_logic.specs.declared.formula.Formula.{Formula}
use Rattle.pm_goal.specs.declared.goal.Goal.{Goal}
use Rattle.pm_goal.specs.declared.work.Kind.{Kind}
use Rattle.pm_goal.specs.declared.work.Work.{Work}
use Rattle.pm_goal.specs.declared.refusal.StepFault.{StepFault}
use Rattle.pm_goal.specs.Left.{of_kind, left_of_work}
use Rattle.pm_proof.specs.Trees.{Tree, entail, conclusion, side_depth}
use Rattle.pm_proof.specs.Known.{Tables, Proves}
use Rattle.pm_proof.specs.declared.proof.Parts.{Parts}
use Rattle.pm_star.specs.Stars.{parts, part_at}
use Rattle.pm_star.specs.Levels.{left_side, right_side}
use Rattle.pm_table.specs.declared.place.Place.{Place}
use Rattle.pm_table.specs.declared.place.Place.TheVariants.{Current as current}
use Rattle.pm_table.specs.Outcomes.{gives}
use Rattle.pm_table.specs.Limits.{limited, all_nodes, work_formulas}
use Rattle.pm_table.specs.Running.{rules_within}
use Rattle.pm_table.specs.Works.{Named}
use Rattle.pm_table.specs.Basic.{for, gives_goal}
use Rattle.pm_table.specs.Heap.{put}
use Rattle.pm_table.specs.Loeb.{formula_named}
use Rattle.pm_action.specs.Meanings.{room, width}
use Rattle.pm_action.specs.Acting.{AnswersOver}
use Rattle.pm_loeb.specs.declared.putting.Spot.{Spot}

-- the hypothesis of the name stands there, also when it becomes another
pub record IsThere (goal : Goal) (name : Named) (spot : Spot) : Type 0 where
  pub within : spot.place < length (parts goal)
  pub named : formula_named name goal ≡ Some spot.formula
  pub part : part_at (parts goal) spot.place ≡ of_kind spot.kind spot.formula
  pub becomes : (f : Formula) → parts (put name f goal) ≡ set (parts goal) spot.place (of_kind spot.kind f)

abbrev pub IsSpot : Goal → Named → Option Spot → Type 0
IsSpot goal name None = formula_named name goal ≡ None
IsSpot goal name (Some spot) = IsThere goal name spot

-- the same of both sides, as they stand in the star
pub record IsKinded (kind : Kind) (by t : Tree) : Type 0 where
  pub concludes : conclusion t ≡ entail (conclusion by).vars (of_kind kind (left_side by)) (of_kind kind (right_side by))
  pub proves : (on : Tables) (k : ℕ) (f g : Formula) → Proves on (entail k f g) [] 1 (side_depth (entail k f g)) k by → Proves on (entail k (of_kind kind f) (of_kind kind g)) [] 2 (side_depth (entail k f g) + 4) k t

-- what the answer is from a proof, however wide and deep, that some star entails that of the work
abbrev pub MovesOn : Work → Tree → Result (Parts Place) StepFault → Type 0
MovesOn made moved r =
    (on : Tables) (s n : ℕ) (w : Work) → length made.goal.vars ≡ length w.goal.vars → made.goal.concl ≡ w.goal.concl
    → Proves on (entail (length w.goal.vars) (left_of_work w) (left_of_work made)) [] n (room w (current [] made ∷ [])) (width w) moved
    → suc n ≤ rules_within s → AnswersOver on (width w) s w (limited (gives (current [] made ∷ []))) r

-- what an action on so many nodes answers, where the hypothesis becomes what `by` proves of it
abbrev pub Puts : Work → Named → Formula → Formula → Tree → Result (Parts Place) StepFault → Type 0
Puts w name f g by r =
    (on : Tables) (s : ℕ) → all_nodes (work_formulas w) ≤ s
    → Proves on (entail (length w.goal.vars) f g) [] 1 (side_depth (entail (length w.goal.vars) f g)) (length w.goal.vars) by
    → AnswersOver on (width w) s w (limited (gives_goal (put name g w.goal))) r

-- and where the conclusion becomes one from which `by` proves it
abbrev pub Concludes : Work → Formula → Tree → Result (Parts Place) StepFault → Type 0
Concludes w g by r =
    (on : Tables) (s : ℕ) → Proves on (entail (length w.goal.vars) g w.goal.concl) [] 1 (side_depth (entail (length w.goal.vars) g w.goal.concl)) (length w.goal.vars) by
    → AnswersOver on (width w) s w (limited (gives_goal (for g w.goal))) r
