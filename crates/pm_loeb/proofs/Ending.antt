-- Ends of actions on goals with nothing in hand, under whatever tables their proofs are valid.
use Rattle.std.proofs.Common.{◌≡◌, ℕ, Bool, true, false, List, [], ◌++◌, refl, sym, ◌∙◌, ap, subst}
use Rattle.std.specs.Prelude.{Result, Err}
use Rattle.std.proofs.lemmas.List.{append-nil}
use Rattle.pm_goal.specs.declared.goal.Goal.{Goal}
use Rattle.pm_goal.specs.declared.work.Held.{Held}
use Rattle.pm_goal.specs.declared.work.Work.{Work}
use Rattle.pm_goal.specs.declared.refusal.Row.{Row}
use Rattle.pm_goal.specs.declared.refusal.StepFault.{StepFault}
use Rattle.pm_goal.specs.declared.refusal.StepFault.TheVariants as fault
use Rattle.pm_goal.specs.Refusals.{refusal}
use Rattle.pm_goal.specs.Left.{held_parts}
use Rattle.pm_proof.specs.Known.{Tables}
use Rattle.pm_proof.specs.declared.proof.Parts.{Parts}
use Rattle.pm_star.specs.Stars.{parts, work_parts}
use Rattle.pm_table.specs.declared.place.Place.{Place}
use Rattle.pm_table.specs.Outcomes.{Outcome, gives, refused, one, require}
use Rattle.pm_table.specs.Limits.{limited, resting}
use Rattle.pm_table.specs.Works.{Named, where_none, work_of}
use Rattle.pm_table.specs.Basic.{on_goal}
use Rattle.pm_action.specs.Acting.{AnswersOver, Refuses, plainly}

module _ (on : Tables) (k s : ℕ) (w : Work) where
  pub no_memory : (o : Outcome) (f : StepFault) → f ≡ fault.Memory → AnswersOver on k s w o (Err f)
  no_memory o f e = subst (λ (x : StepFault). AnswersOver on k s w o (Err x)) (sym e) (by o)
    where
      by : (o : Outcome) → AnswersOver on k s w o (Err fault.Memory)
      by (gives ps) = tt
      by (refused r) = tt

  pub refused_by : (row : Row) (name : Named) (f : StepFault) → Refuses row name f → AnswersOver on k s w (refused (refusal row name)) (Err f)
  refused_by row name (fault.Refused x) h = h
  refused_by row name fault.Memory h = tt

  pub refused_plainly : (row : Row) (f : StepFault) → f ≡ fault.Refused (plainly row) → AnswersOver on k s w (refused (plainly row)) (Err f)
  refused_plainly row f e = subst (λ (x : StepFault). AnswersOver on k s w (refused (plainly row)) (Err x)) (sym e) refl

  pub not_required : (b : Bool) (row : Row) (name : Named) (follows : Outcome) (f : StepFault) → b ≡ false → Refuses row name f → AnswersOver on k s w (limited (require b row name follows)) (Err f)
  not_required b row name follows f e h = subst (λ (x : Bool). AnswersOver on k s w (limited (require x row name follows)) (Err f)) (sym e) (refused_by row name f h)

  pub required : (b : Bool) (row : Row) (name : Named) (follows : Outcome) (r : Result (Parts Place) StepFault) → b ≡ true → AnswersOver on k s w (limited follows) r → AnswersOver on k s w (limited (require b row name follows)) r
  required b row name follows r e h = subst (λ (x : Bool). AnswersOver on k s w (limited (require x row name follows)) r) (sym e) h

  -- an action on the goal
  pub on_rest : (act : Goal → Outcome) (r : Result (Parts Place) StepFault) → w.held ≡ [] → AnswersOver on k s w (limited (act w.goal)) r → AnswersOver on k s w (limited (on_goal act w)) r
  on_rest act r nothing h = subst (λ (hs : List Held). AnswersOver on k s w (limited (where_none hs (act w.goal) (one w))) r) (sym nothing) h

pub rested : (w : Work) → w.held ≡ [] → w ≡ resting w.goal
rested w nothing = ap (λ (hs : List Held). work_of w.goal hs) nothing

pub rest_parts : (w : Work) → w.held ≡ [] → work_parts w ≡ parts w.goal
rest_parts w nothing = ap (λ (hs : List Held). parts w.goal ++ held_parts hs) nothing ∙ append-nil (parts w.goal)
