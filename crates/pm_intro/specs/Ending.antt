-- Ends of actions that leave patterns to come, and what is put behind a star.
use Rattle.std.specs.Prelude.{◌≡◌, ℕ, suc, ◌+◌, ◌*◌, ◌≤◌, Bool, List, [], ◌∷◌, length, insert, Result}
use Rattle.pm_logic.specs.declared.formula.Formula.{Formula}
use Rattle.pm_logic.specs.declared.formula.Formula.TheViews as view
use Rattle.pm_goal.specs.declared.work.Work.{Work}
use Rattle.pm_goal.specs.declared.refusal.StepFault.{StepFault}
use Rattle.pm_goal.specs.Left.{left_of_work}
use Rattle.pm_proof.specs.Trees.{Tree, entail, conclusion}
use Rattle.pm_proof.specs.Known.{Proves, Every}
use Rattle.pm_proof.specs.declared.proof.Parts.{Parts}
use Rattle.pm_star.specs.Stars.{work_parts}
use Rattle.pm_table.specs.declared.place.Place.{Place}
use Rattle.pm_table.specs.declared.place.Place.TheVariants.{Current as current}
use Rattle.pm_table.specs.Outcomes.{gives}
use Rattle.pm_table.specs.Limits.{limited}
use Rattle.pm_table.specs.Running.{rules_within}
use Rattle.pm_action.specs.Meanings.{meaning, height, room, width}
use Rattle.pm_action.specs.Acting.{Answers}

-- the one new work, on which these of the patterns to come act, from a proof that the old one's star entails the new one's
abbrev pub OpensTo : List Bool → Work → Work → Tree → Result (Parts Place) StepFault → Type 0
OpensTo turns w new t r = (s n : ℕ) → suc n ≤ rules_within s → Proves Every (conclusion t) [] n (room w (current turns new ∷ [])) (width w) t → Answers s w (limited (gives (current turns new ∷ []))) r

-- the new work has one part more than the old one, behind the others
abbrev pub HasMore : Work → Formula → Work → Type 0
HasMore old a new = work_parts new ≡ insert (work_parts old) (length (work_parts old)) a

-- from what the new work means: its conclusion, by the part beside the old one's star
abbrev pub Reaches : Work → Formula → Work → Tree → Type 0
Reaches old a new t = Proves Every (entail (length new.goal.vars) (view.Sep a (left_of_work old)) new.goal.concl) (meaning new ∷ []) (100 * (length (work_parts old) + 1) + 1) (height new + 16) (length new.goal.vars) t
