-- What each action keeps, steps keep.
use Rattle.std.proofs.Common.{ℕ, Bool, true, false, List, [], ◌∷◌, ◌++◌, map}
use Rattle.pm_goal.specs.declared.work.Held.{Held}
use Rattle.pm_goal.specs.declared.work.Work.{Work}
use Rattle.pm_table.specs.Works.{where_none, at_rest}
use Rattle.pm_table.specs.Outcomes.{Outcome, gives, refused, Action, one}
use Rattle.pm_table.specs.declared.place.Place.{Place}
use Rattle.pm_table.specs.declared.place.Place.TheVariants.{Finished as finished, Current as current}
use Rattle.pm_table.specs.Limits.{work_at, limited}
use Rattle.pm_table.specs.Running.{Run, ran, stopped, adding, after, beside_places, beside, on_all, stays, run_of, once, turns_behind, keeping_turns, in_place, in_turn, with_turn, act_with, act, each_alone, for_each, in_order}
use Rattle.pm_table.specs.Stepping.{Each}

-- of works, what holds of each place

abbrev pub Everywhere : (Work → Type 0) → List Place → Type 0
Everywhere P ps = Each (λ p. P (work_at p)) ps

abbrev pub InOutcome : (Work → Type 0) → Outcome → Type 0
InOutcome P (gives ps) = Everywhere P ps
InOutcome P (refused r) = Unit {0}

abbrev pub InRun : (Work → Type 0) → Run → Type 0
InRun P (ran n ps) = Everywhere P ps
InRun P (stopped r) = Unit {0}

-- the action keeps P
abbrev pub Good : (Work → Type 0) → Action → Type 0
Good P action = (w : Work) → P w → InOutcome P (limited (action w))

-- so does what is done with a work
abbrev pub GoodRun : (Work → Type 0) → (Work → Run) → Type 0
GoodRun P whole = (w : Work) → P w → InRun P (whole w)

-- and with places
abbrev pub GoodPlaces : (Work → Type 0) → (List Place → Run) → Type 0
GoodPlaces P whole = (ps : List Place) → Everywhere P ps → InRun P (whole ps)

pub everywhere_append : (P : Work → Type 0) (ps qs : List Place) → Everywhere P ps → Everywhere P qs → Everywhere P (ps ++ qs)
everywhere_append P [] qs h g = g
everywhere_append P (p ∷ ps) qs h g = (h.0, everywhere_append P ps qs h.1 g)

pub turns_kept : (P : Work → Type 0) (turns : List Bool) (p : Place) → P (work_at p) → P (work_at (turns_behind turns p))
turns_kept P turns (finished goal) h = h
turns_kept P turns (current new work) h = h

pub everywhere_turns : (P : Work → Type 0) (turns : List Bool) (ps : List Place) → Everywhere P ps → Everywhere P (map (turns_behind turns) ps)
everywhere_turns P turns [] h = tt
everywhere_turns P turns (p ∷ ps) h = (turns_kept P turns p h.0, everywhere_turns P turns ps h.1)

pub with_turn_kept : (P : Work → Type 0) (p : Place) → P (work_at p) → P (work_at (with_turn p))
with_turn_kept P (finished goal) h = h
with_turn_kept P (current turns work) h = h

pub everywhere_with_turn : (P : Work → Type 0) (ps : List Place) → Everywhere P ps → Everywhere P (map with_turn ps)
everywhere_with_turn P [] h = tt
everywhere_with_turn P (p ∷ ps) h = (with_turn_kept P p h.0, everywhere_with_turn P ps h.1)

pub keeping_turns_in : (P : Work → Type 0) (turns : List Bool) (r : Run) → InRun P r → InRun P (keeping_turns turns r)
keeping_turns_in P turns (ran n ps) h = everywhere_turns P turns ps h
keeping_turns_in P turns (stopped r) h = tt

pub adding_in : (P : Work → Type 0) (n : ℕ) (r : Run) → InRun P r → InRun P (adding n r)
adding_in P n (ran m ps) h = h
adding_in P n (stopped r) h = tt

pub after_in : (P : Work → Type 0) (r : Run) (follows : List Place → Run) → InRun P r → GoodPlaces P follows → InRun P (after r follows)
after_in P (ran n ps) follows h g = adding_in P n (follows ps) (g ps h)
after_in P (stopped r) follows h g = tt

pub beside_places_in : (P : Work → Type 0) (n : ℕ) (ps : List Place) (r : Run) → Everywhere P ps → InRun P r → InRun P (beside_places n ps r)
beside_places_in P n ps (ran m qs) h g = everywhere_append P ps qs h g
beside_places_in P n ps (stopped r) h g = tt

pub beside_in : (P : Work → Type 0) (r others : Run) → InRun P r → InRun P others → InRun P (beside r others)
beside_in P (ran n ps) others h g = beside_places_in P n ps others h g
beside_in P (stopped r) others h g = tt

pub on_all_in : (P : Work → Type 0) (act : Place → Run) → ((p : Place) → P (work_at p) → InRun P (act p)) → GoodPlaces P (on_all act)
on_all_in P act each [] h = tt
on_all_in P act each (p ∷ ps) h = beside_in P (act p) (on_all act ps) (each p h.0) (on_all_in P act each ps h.1)

pub run_of_in : (P : Work → Type 0) (n : ℕ) (o : Outcome) → InOutcome P o → InRun P (run_of n o)
run_of_in P n (gives ps) h = h
run_of_in P n (refused r) h = tt

pub once_in : (P : Work → Type 0) (n : ℕ) (action : Action) → Good P action → GoodRun P (once n action)
once_in P n action good w h = run_of_in P _ (limited (action w)) (good w h)

pub in_place_in : (P : Work → Type 0) (whole : Work → Run) → GoodRun P whole → (p : Place) → P (work_at p) → InRun P (in_place whole p)
in_place_in P whole good (finished goal) h = (h, tt)
in_place_in P whole good (current turns work) h = keeping_turns_in P turns (whole work) (good work h)

pub in_turn_in : (P : Work → Type 0) (parts : ℕ) (whole : Work → Run) → GoodRun P whole → (p : Place) → P (work_at p) → InRun P (in_turn parts whole p)
in_turn_in P parts whole good (finished goal) h = (h, tt)
in_turn_in P parts whole good (current [] work) h = (h, tt)
in_turn_in P parts whole good (current (false ∷ turns) work) h = (h, tt)
in_turn_in P parts whole good (current (true ∷ turns) work) h = keeping_turns_in P turns (whole work) (good work h)

pub each_alone_in : (P : Work → Type 0) (whole : Work → Run) → GoodRun P whole → GoodPlaces P (each_alone whole)
each_alone_in P whole good ps h = on_all_in P (in_place whole) (in_place_in P whole good) ps h

pub act_with_in : (P : Work → Type 0) (n : ℕ) (action : Action) → Good P action → GoodPlaces P (act_with n action)
act_with_in P n action good ps h = each_alone_in P (once n action) (once_in P n action good) ps h

pub act_in : (P : Work → Type 0) (action : Action) → Good P action → GoodPlaces P (act action)
act_in P action good ps h = act_with_in P 0 action good ps h

-- with a condition on each item
pub in_order_in : {A : Type 0} (P : Work → Type 0) (T : A → Type 0) (step : A → List Place → Run) → ((x : A) → T x → GoodPlaces P (step x)) → (xs : List A) → Each T xs → GoodPlaces P (in_order step xs)
in_order_in P T step good [] given ps h = h
in_order_in P T step good (x ∷ xs) given ps h = after_in P (step x ps) (in_order step xs) (good x given.0 ps h) (in_order_in P T step good xs given.1)

pub anything : {A : Type 0} → (xs : List A) → Each (λ x. Unit {0}) xs
anything [] = tt
anything (x ∷ xs) = (tt, anything xs)

pub for_each_in : {A : Type 0} (P : Work → Type 0) (T : A → Type 0) (action : A → Action) → ((x : A) → T x → Good P (action x)) → (xs : List A) → Each T xs → GoodRun P (for_each action xs)
for_each_in P T action good xs given w h = in_order_in P T (λ x. act (action x)) (λ x i. act_in P (action x) (good x i)) xs given (current [] w ∷ []) (h, tt)

-- an action for works with nothing in hand keeps what it keeps where it acts, and what staying keeps
rest_in : (P : Work → Type 0) (hs : List Held) (o q : Outcome) → InOutcome P (limited o) → InOutcome P (limited q) → InOutcome P (limited (where_none hs o q))
rest_in P [] o q h g = h
rest_in P (x ∷ hs) o q h g = g

pub rest_good : (P : Work → Type 0) (action : Action) → Good P action → Good P one → Good P (at_rest action)
rest_good P action good stays w h = rest_in P w.held (action w) (one w) (good w h) (stays w h)

-- the same of what it gives, whatever the limits
pub rests_in : (P : Work → Type 0) (hs : List Held) (o q : Outcome) → InOutcome P o → InOutcome P q → InOutcome P (where_none hs o q)
rests_in P [] o q h g = h
rests_in P (x ∷ hs) o q h g = g
