-- What giving a name answers.
use Rattle.std.proofs.Common.{◌≡◌, true, false, length, sym, ◌∙◌, ap, subst, le_refl}
use Rattle.std.specs.Prelude.{Result, Err}
use Rattle.pm_goal.specs.declared.work.Held.{Held}
use Rattle.pm_goal.specs.declared.work.Work.{Work}
use Rattle.pm_goal.specs.declared.refusal.Row.TheVariants.{NameInUse}
use Rattle.pm_goal.specs.declared.refusal.StepFault.{StepFault}
use Rattle.pm_goal.specs.Left.{left_of_work}
use Rattle.pm_proof.specs.Trees.{Tree}
use Rattle.pm_proof.specs.declared.proof.Parts.{Parts}
use Rattle.pm_star.specs.Stars.{work_parts, Moves}
use Rattle.pm_table.specs.declared.place.Place.{Place}
use Rattle.pm_table.specs.Outcomes.{one, require}
use Rattle.pm_table.specs.Limits.{limited, all_nodes, work_formulas}
use Rattle.pm_table.specs.Works.{Named, fits, with_hyp, work_of}
use Rattle.pm_table.specs.Destructs as table
use Rattle.pm_action.specs.Acting.{Answers, Refuses, IsLast, MovesTo}
use Rattle.pm_action.proofs.Hands.{with_last_is}
use Rattle.pm_action.proofs.Moves.{moves_answer}
use Rattle.pm_hand.specs.Changed.{named, GivesOne}
use Rattle.pm_hand.proofs.Answered.{refuses}

-- the row, at the last in hand
named_row : (w : Work) (l : Held) (name : Named) → IsLast w l → table.name_held name w ≡ require (fits w.goal name) NameInUse name (one (named w l name))
named_row w l name is = with_last_is w (λ hand. require (fits w.goal name) NameInUse name (one (work_of (with_hyp hand.last.kind name hand.last.formula w.goal) hand.others))) l is

pub name_refused : (w : Work) (l : Held) (name : Named) (f : StepFault) → IsLast w l → fits w.goal name ≡ false → Refuses NameInUse name f → Answers (all_nodes (work_formulas w)) w (limited (table.name_held name w)) (Err f)
name_refused w l name f is taken e =
    subst (λ o. Answers (all_nodes (work_formulas w)) w (limited o) (Err f)) (ap (λ b. require b NameInUse name (one (named w l name))) (sym taken) ∙ sym (named_row w l name is))
    (refuses (all_nodes (work_formulas w)) w NameInUse name f e)

pub name_given : (w : Work) (l : Held) (name : Named) (r : Result (Parts Place) StepFault) → IsLast w l → fits w.goal name ≡ true → GivesOne w (named w l name) r → Answers (all_nodes (work_formulas w)) w (limited (table.name_held name w)) r
name_given w l name r is free e =
    subst (λ o. Answers (all_nodes (work_formulas w)) w (limited o) r) (ap (λ b. require b NameInUse name (one (named w l name))) (sym free) ∙ sym (named_row w l name is)) e

pub moved_gives : (w goal_new new : Work) (t : Tree) (r : Result (Parts Place) StepFault) → new ≡ goal_new → Moves (length w.goal.vars) (length (work_parts w)) (left_of_work w) (left_of_work goal_new) t → MovesTo w new t r → GivesOne w goal_new r
moved_gives w goal_new new t r is m to =
    moves_answer (all_nodes (work_formulas w)) w goal_new t r (le_refl (all_nodes (work_formulas w))) m (subst (λ x. MovesTo w x t r) is to)
