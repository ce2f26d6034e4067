-- Actions run on works: on each in its turn, within the limits, and how many rules the steps may take.
use Rattle.std.specs.Prelude.{ℕ, suc, ◌+◌, ◌*◌, Bool, true, false, List, [], ◌∷◌, ◌++◌, map, replicate}
use Rattle.pm_goal.specs.declared.work.Work.{Work}
use Rattle.pm_goal.specs.declared.refusal.Refusal.{Refusal}
use Rattle.pm_table.specs.Outcomes.{Outcome, gives, refused, Action}
use Rattle.pm_table.specs.declared.place.Place.{Place}
use Rattle.pm_table.specs.declared.place.Place.TheVariants.{Finished as finished, Current as current}
use Rattle.pm_table.specs.Limits.{work_formulas, all_nodes, limited}

-- where the works of a goal stand after some actions, with a bound on the rules that they take; or the first refusal
pub data Run : Type 0 where
  ran : (rules : ℕ) → (places : List Place) → Run
  stopped : (refusal : Refusal) → Run

-- one after another: what both take, or the first refusal
abbrev pub adding : ℕ → Run → Run
adding n (ran m ps) = ran (n + m) ps
adding n (stopped r) = stopped r

abbrev pub after : Run → (List Place → Run) → Run
after (ran n ps) follows = adding n (follows ps)
after (stopped r) follows = stopped r

-- both, with the places in a row
abbrev pub beside_places : ℕ → List Place → Run → Run
beside_places n ps (ran m qs) = ran (n + m) (ps ++ qs)
beside_places n ps (stopped r) = stopped r

abbrev pub beside : Run → Run → Run
beside (ran n ps) r = beside_places n ps r
beside (stopped r) others = stopped r

-- on all places, from left to right
abbrev pub on_all : (Place → Run) → List Place → Run
on_all act [] = ran 0 []
on_all act (p ∷ ps) = beside (act p) (on_all act ps)

abbrev pub stays : Place → Run
stays p = ran 0 (p ∷ [])

-- ---- one action on one work

-- the rules that an action takes at most on a work, with what is handed to it of so many nodes
abbrev pub rules_within : ℕ → ℕ
rules_within s = 1000 * (suc s * suc s)

abbrev pub run_of : ℕ → Outcome → Run
run_of n (gives ps) = ran n ps
run_of n (refused r) = stopped r

-- the limits are tested after the action's own conditions
abbrev pub once : ℕ → Action → Work → Run
once handed action work = run_of (rules_within (all_nodes (work_formulas work) + handed)) (limited (action work))

-- ---- turns of patterns

-- the turns that are still to come stand behind those of the place
abbrev pub turns_behind : List Bool → Place → Place
turns_behind turns (finished goal) = finished goal
turns_behind turns (current new work) = current (new ++ turns) work

abbrev pub keeping_turns : List Bool → Run → Run
keeping_turns turns (ran n ps) = ran n (map (turns_behind turns) ps)
keeping_turns turns (stopped r) = stopped r

-- in each place, what is to be done with the work
abbrev pub in_place : (Work → Run) → Place → Run
in_place act (finished goal) = stays (finished goal)
in_place act (current turns work) = keeping_turns turns (act work)

-- in each place whose turn it is; the next turn is over, and in the place of a pattern come so many parts of it
abbrev pub in_turn : ℕ → (Work → Run) → Place → Run
in_turn parts act (finished goal) = stays (finished goal)
in_turn parts act (current [] work) = stays (current [] work)
in_turn parts act (current (false ∷ turns) work) = stays (current (replicate parts false ++ turns) work)
in_turn parts act (current (true ∷ turns) work) = keeping_turns turns (act work)

-- a pattern to come, which is for every work
abbrev pub with_turn : Place → Place
with_turn (finished goal) = finished goal
with_turn (current turns work) = current (true ∷ turns) work

-- ---- several actions

-- the action on all works, to which something of so many nodes is handed
abbrev pub act_with : ℕ → Action → List Place → Run
act_with handed action ps = on_all (in_place (once handed action)) ps

abbrev pub act : Action → List Place → Run
act action ps = act_with 0 action ps

-- what is done with one work is done with it alone, before the next
abbrev pub each_alone : (Work → Run) → List Place → Run
each_alone whole ps = on_all (in_place whole) ps

-- an act on all works for each item, in order
abbrev pub in_order : {A : Type 0} → (A → List Place → Run) → List A → List Place → Run
in_order step [] ps = ran 0 ps
in_order step (x ∷ xs) ps = after (step x ps) (in_order step xs)

-- an action for each item, in order, on one work
abbrev pub for_each : {A : Type 0} → (A → Action) → List A → Work → Run
for_each action xs work = in_order (λ x. act (action x)) xs (current [] work ∷ [])
