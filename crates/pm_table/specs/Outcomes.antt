-- What an action gives: the works in the place of the one that it was run on, or the first row that refuses it.
use Rattle.std.specs.Prelude.{ℕ, Bool, List, [], ◌∷◌, ◌++◌, Option, Some, None, if◌then◌else◌, Result, Ok, Err}
use Rattle.pm_goal.specs.declared.goal.Goal.{Goal}
use Rattle.pm_goal.specs.declared.work.Work.{Work}
use Rattle.pm_goal.specs.declared.refusal.Row.{Row}
use Rattle.pm_goal.specs.declared.refusal.Refusal.{Refusal}
use Rattle.pm_goal.specs.Refusals.{refusal}
use Rattle.pm_table.specs.declared.place.Place.{Place}
use Rattle.pm_table.specs.declared.place.Place.TheVariants.{Finished as finished, Current as current}

pub data Outcome : Type 0 where
  gives : (places : List Place) → Outcome
  refused : (refusal : Refusal) → Outcome

abbrev pub Action : Type 0
Action = Work → Outcome

-- ---- what an action answers

-- refused by the row, about the name where the row gives one
abbrev pub refuse : Row → List ℕ → Outcome
refuse row name = refused (refusal row name)

-- refused by the row, with no name
abbrev pub refuse_plain : Row → Outcome
refuse_plain row = refused (record { row = row; name = None })

-- what follows where the condition holds, and else the row
abbrev pub require : Bool → Row → List ℕ → Outcome → Outcome
require condition row name follows = if condition then follows else refuse row name

abbrev pub require_plain : Bool → Row → Outcome → Outcome
require_plain condition row follows = if condition then follows else refuse_plain row

-- what follows from what is there, and else the row
abbrev pub require_some : {A : Type 0} → Option A → Row → List ℕ → (A → Outcome) → Outcome
require_some (Some x) row name follows = follows x
require_some None row name follows = refuse row name

abbrev pub require_entry : {A : Type 0} → Option A → Row → (A → Outcome) → Outcome
require_entry (Some x) row follows = follows x
require_entry None row follows = refuse_plain row

-- the goal is closed
abbrev pub closed : Outcome
closed = gives []

-- one work in the place of the old one
abbrev pub one : Work → Outcome
one work = gives (current [] work ∷ [])

abbrev pub two : Work → Work → Outcome
two first second = gives (current [] first ∷ current [] second ∷ [])

-- both lists, or the first refusal
abbrev pub joined : Outcome → Outcome → Outcome
joined (gives ps) (gives qs) = gives (ps ++ qs)
joined (gives ps) (refused r) = refused r
joined (refused r) o = refused r

-- ---- what a place is made of

abbrev pub parts_of_place : Place → Result (List Bool × Work) Goal
parts_of_place (finished goal) = Err goal
parts_of_place (current turns work) = Ok (turns, work)
