-- What comes into a goal from its conclusion: variables and left sides. In each row the conditions stand in the order in which
-- they are tested.
use Rattle.std.specs.Prelude.{Bool, true, false, ◌&&◌, not, List, [], ◌∷◌, Option, Some, None}
use Rattle.pm_logic.specs.declared.formula.Formula.{Formula}
use Rattle.pm_logic.specs.Trees.{Wand, Imp, All}
use Rattle.pm_goal.specs.declared.goal.Goal.{Goal}
use Rattle.pm_goal.specs.declared.work.Kind.TheVariants.{Spat}
use Rattle.pm_goal.specs.declared.work.Work.{Work}
use Rattle.pm_goal.specs.declared.refusal.Row.TheVariants.{NameInUse, NoHypothesisToIntroduce, ImplicationOverSpatial, NoVariableToIntroduce}
use Rattle.pm_classes.specs.Persistence.{is_persistent}
use Rattle.pm_table.specs.Outcomes.{Outcome, require, require_plain, require_entry, one}
use Rattle.pm_table.specs.Works.{Named, fits, fresh_name, with_var, with_concl, hold, work_of}

abbrev pub is_empty : {A : Type 0} → List A → Bool
is_empty [] = true
is_empty (x ∷ xs) = false

-- ---- a left side

-- of a wand or an implication, whether it is an implication, and its sides
pub record Sides : Type 0 where
  pub implies : Bool
  pub left : Formula
  pub right : Formula

abbrev pub sides_of : Formula → Option Sides
sides_of (Wand a b) = Some (record { implies = false; left = a; right = b })
sides_of (Imp a b) = Some (record { implies = true; left = a; right = b })
sides_of _ = None

-- an implication whose left side isn't persistent, over spatial hypotheses
abbrev pub is_blocked : Sides → Goal → Bool
is_blocked s goal = s.implies && not (is_persistent s.left) && not (is_empty goal.spats)

-- the conclusion is `A -∗ B` or `A → B`: it becomes B, and A is held, spatial
abbrev pub intro_hyp : Work → Outcome
intro_hyp work =
    require_entry (sides_of work.goal.concl) NoHypothesisToIntroduce (λ s.
    require_plain (not (is_blocked s work.goal)) ImplicationOverSpatial
    (one (hold Spat s.left (work_of (with_concl s.right work.goal) work.held))))

-- ---- a universal

abbrev pub universal_of : Formula → Option Formula
universal_of (All b) = Some b
universal_of _ = None

-- the conclusion is `∀ B`: the goal gains the variable, and the conclusion becomes B
abbrev pub intro_all : Named → Work → Outcome
intro_all x work =
    require_entry (universal_of work.goal.concl) NoVariableToIntroduce (λ b.
    require (fits work.goal x) NameInUse x
    (one (work_of (with_var x b work.goal) [])))

abbrev pub intro_all_fresh : Work → Outcome
intro_all_fresh work = intro_all (fresh_name work.goal) work
