-- Two spatial hypotheses that are taken, and what they are together.
use Rattle.std.specs.Prelude.{◌≡◌, ℕ, suc, Bool, false, [], ◌∷◌, length, Option, Some, Result, Ok, Err, if◌then◌else◌}
use Rattle.std.specs.Str.{bytes_eq}
use Rattle.pm_logic.specs.declared.formula.Formula.{Formula}
use Rattle.pm_goal.specs.declared.goal.Goal.{Goal}
use Rattle.pm_goal.specs.declared.work.Work.{Work}
use Rattle.pm_goal.specs.declared.work.Kind.TheVariants as kind
use Rattle.pm_goal.specs.declared.refusal.Row.TheVariants.{NoSuchHypothesis}
use Rattle.pm_goal.specs.declared.refusal.StepFault.{StepFault}
use Rattle.pm_goal.specs.Left.{left_of_work}
use Rattle.pm_proof.specs.Trees.{Tree}
use Rattle.pm_star.specs.Stars.{work_parts, MovesBy}
use Rattle.pm_star.specs.Levels.{right_side}
use Rattle.pm_classes.specs.Classes.{combine}
use Rattle.pm_table.specs.Outcomes.{Outcome, closed, one, require_some}
use Rattle.pm_table.specs.Limits.{limited}
use Rattle.pm_table.specs.Works.{Named, hyp_named, hyps_out, hold}
use Rattle.pm_table.specs.Basic.{all_spatial, with_spats}
use Rattle.pm_table.specs.Destructs.{is_falsehood}
use Rattle.pm_table.specs.Heap.{holding_combined}
use Rattle.pm_action.specs.Acting.{Answers}
use Rattle.pm_hand.specs.Changed.{less}
use Rattle.pm_hand.specs.Looking.{IsAt}
use Rattle.pm_heap.specs.declared.combining.Two.{Two}
use Rattle.pm_heap.specs.Taken.{taken, without_both}

-- the names are two of spatial hypotheses
abbrev pub AreTwo : Goal → Named → Named → Result (Unit {0}) StepFault → Type 0
AreTwo goal a b (Ok _) = (bytes_eq b a ≡ false) × ((o : Outcome) → all_spatial goal (a ∷ b ∷ []) o ≡ o)
AreTwo goal a b (Err f) = (s : ℕ) (w : Work) (o : Outcome) → Answers s w (limited (all_spatial goal (a ∷ b ∷ []) o)) (Err f)

-- where they are, with the work in which the first is in hand, and the one without both
pub record AreTaken (w : Work) (a b : Named) (t : Two) : Type 0 where
  pub has_first : hyp_named a w.goal.spats ≡ Some t.first.formula
  pub has_second : hyp_named b w.goal.spats ≡ Some t.second.formula
  pub first : IsAt w.goal a t.first.place t.first.formula
  pub middle : t.middle ≡ taken w a t.first.formula
  pub second : IsAt (less w a).goal b t.second.place t.second.formula
  pub rest : t.rest ≡ without_both w a b

-- from the star with both in hand to the star with what `by` proves of them
abbrev pub Together : Work → Formula → Formula → Tree → Tree → Type 0
Together rest f g by t = MovesBy by (length rest.goal.vars) (suc (suc (length (work_parts rest)))) (left_of_work (hold kind.Spat g (hold kind.Spat f rest))) (left_of_work (hold kind.Spat (right_side by) rest)) t

-- what becomes of the work without both, where this is what they are together
abbrev pub combining : Work → Named → Named → Formula → Outcome
combining w a b c = if is_falsehood c then closed else one (hold kind.Spat c (without_both w a b))

-- the row, where both names are of spatial hypotheses
abbrev pub two_row : Named → Named → Goal → Outcome
two_row a b goal =
    require_some (hyp_named a goal.spats) NoSuchHypothesis a (λ f.
    require_some (hyp_named b goal.spats) NoSuchHypothesis b (λ g.
    holding_combined (combine f g) (with_spats (hyps_out (a ∷ b ∷ []) goal.spats) goal)))
