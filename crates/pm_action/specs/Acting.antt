-- What an action on a work owes: the row of the table, and a proof of what the old work means from what the new ones mean.
use Rattle.std.specs.Prelude.{◌≡◌, ℕ, suc, ◌+◌, ◌≤◌, List, [], ◌∷◌, length, take, ◌-◌, Some, None, Result, Ok, Err}
use Rattle.std.specs.List.{AllByRecursion}
use Rattle.pm_logic.specs.Scope.{ScopedIn}
use Rattle.pm_goal.specs.declared.work.Held.{Held}
use Rattle.pm_goal.specs.declared.work.Work.{Work}
use Rattle.pm_goal.specs.declared.refusal.Row.{Row}
use Rattle.pm_goal.specs.declared.refusal.Refusal.{Refusal}
use Rattle.pm_goal.specs.declared.refusal.StepFault.{StepFault}
use Rattle.pm_goal.specs.declared.refusal.StepFault.TheVariants as fault
use Rattle.pm_goal.specs.Refusals.{refusal}
use Rattle.pm_proof.specs.Trees.{Tree, conclusion}
use Rattle.pm_proof.specs.Known.{Tables, Proves, Every}
use Rattle.pm_proof.specs.declared.proof.Parts.{Parts}
use Rattle.pm_table.specs.declared.place.Place.{Place}
use Rattle.pm_table.specs.declared.place.Place.TheVariants.{Current as current}
use Rattle.pm_table.specs.Outcomes.{Outcome, gives, refused}
use Rattle.pm_table.specs.Limits.{limited, work_formulas, greatest_depth, hypotheses}
use Rattle.pm_star.specs.Stars.{parts}
use Rattle.pm_table.specs.Works.{hand_of}
use Rattle.pm_table.specs.Running.{rules_within}
use Rattle.pm_table.specs.Stepping.{NamesDiffer}
use Rattle.pm_action.specs.Meanings.{meaning, meanings, room, width}
use Rattle.pm_action.specs.declared.limits.TheConstants.{MOST}

-- what a work is that is handed to an action
pub record IsHanded (w : Work) : Type 0 where
  pub few : length w.goal.vars + hypotheses w ≤ MOST
  pub shallow : length w.goal.vars + greatest_depth (work_formulas w) ≤ MOST
  pub scoped : AllByRecursion (ScopedIn (length w.goal.vars)) (work_formulas w)
  pub apart : NamesDiffer w.goal

-- a proof of what the work means from what the places mean, by an action on so many nodes, valid under the tables and in at most
-- so many variables
abbrev pub IsActedOver : Tables → (variables s : ℕ) → Work → List Place → Tree → Type 0
IsActedOver on k s w ps t = Proves on (meaning w) (meanings ps) (rules_within s) (room w ps) k t

-- what an action answers whose outcome this is: want of memory, or the first row that refuses it, or the places with a proof
abbrev pub AnswersOver : Tables → (variables s : ℕ) → Work → Outcome → Result (Parts Place) StepFault → Type 0
AnswersOver on k s w (gives ps) (Ok parts) = (parts.goals ≡ ps) × IsActedOver on k s w ps parts.proof
AnswersOver on k s w (gives ps) (Err (fault.Refused x)) = ⊥
AnswersOver on k s w (gives ps) (Err fault.Memory) = Unit {0}
AnswersOver on k s w (refused r) (Ok parts) = ⊥
AnswersOver on k s w (refused r) (Err (fault.Refused x)) = x ≡ r
AnswersOver on k s w (refused r) (Err fault.Memory) = Unit {0}

-- under every table, and no wider than what the work has in it
abbrev pub IsActed : ℕ → Work → List Place → Tree → Type 0
IsActed s w ps t = IsActedOver Every (width w) s w ps t

abbrev pub Answers : ℕ → Work → Outcome → Result (Parts Place) StepFault → Type 0
Answers s w o r = AnswersOver Every (width w) s w o r

-- the fault of a refusal by the row of what is about the name, or want of memory
abbrev pub Refuses : Row → List ℕ → StepFault → Type 0
Refuses row name (fault.Refused x) = x ≡ refusal row name
Refuses row name fault.Memory = Unit {0}

-- the refusal by the row, with no name
abbrev pub plainly : Row → Refusal
plainly row = record { row = row; name = None }

-- ---- ends of actions, whatever is known of the proof

-- these places, where they are within the limits
abbrev pub EndsOver : List Place → Tree → Result (Parts Place) StepFault → Type 0
EndsOver ps t r = (on : Tables) (k s : ℕ) (w : Work) → IsActedOver on k s w ps t → AnswersOver on k s w (limited (gives ps)) r

abbrev pub Ends : List Place → Tree → Result (Parts Place) StepFault → Type 0
Ends ps t r = (s : ℕ) (w : Work) → IsActed s w ps t → Answers s w (limited (gives ps)) r

-- the one new work, from a proof that the old one's star entails the new one's
abbrev pub MovesTo : Work → Work → Tree → Result (Parts Place) StepFault → Type 0
MovesTo w new t r = (s n : ℕ) → suc n ≤ rules_within s → Proves Every (conclusion t) [] n (room w (current [] new ∷ [])) (width w) t → Answers s w (limited (gives (current [] new ∷ []))) r

-- the one new work, which means the same
abbrev pub StaysAs : Work → Work → Result (Parts Place) StepFault → Type 0
StaysAs w new r = (s : ℕ) → Answers s w (limited (gives (current [] new ∷ []))) r

-- ---- what is in hand

abbrev pub all_but_last : List Held → List Held
all_but_last hs = take (length hs - 1) hs

-- the last in hand, behind the others
abbrev pub IsLast : Work → Held → Type 0
IsLast w h = hand_of w.held ≡ Some (record { others = all_but_last w.held; last = h })

-- its place in the star
abbrev pub last_place : Work → ℕ
last_place w = length (parts w.goal) + length (all_but_last w.held)
