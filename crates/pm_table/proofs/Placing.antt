-- What holds of each place, before and after actions.
use Rattle.std.proofs.Common.{ℕ, Bool, true, false, cond, not, find, List, [], ◌∷◌, ◌++◌, map, Option, Some, None}
use Rattle.pm_goal.specs.declared.goal.Goal.{Goal}
use Rattle.pm_goal.specs.declared.work.Work.{Work}
use Rattle.pm_goal.specs.declared.refusal.Row.{Row}
use Rattle.pm_table.specs.Outcomes.{Outcome, gives, refused, Action, refuse, refuse_plain, require, require_plain, require_some, require_entry, joined}
use Rattle.pm_table.specs.declared.place.Place.{Place}
use Rattle.pm_table.specs.Limits.{limit_row, work_at, kept_or, within_limits, all_within, limited}
use Rattle.pm_table.specs.Works.{Named, has_hyp, has_spat}
use Rattle.pm_table.specs.Basic.{all_spatial, refuse_where, repeated}
use Rattle.pm_table.specs.Running.{Run, ran, stopped, adding, after, beside_places, beside, on_all, run_of, once, turns_behind, keeping_turns, in_order}
use Rattle.pm_table.specs.Stepping.{Each}
use Rattle.pm_table.specs.Hands.{EachPlace}

-- of each place that an action gives
abbrev pub Gives : (Place → Type 0) → Outcome → Type 0
Gives P (gives ps) = Each P ps
Gives P (refused r) = Unit {0}

-- from places where P holds to places where Q does
abbrev pub Moves : (P Q : Place → Type 0) → (List Place → Run) → Type 0
Moves P Q whole = (ps : List Place) → Each P ps → EachPlace Q (whole ps)

-- ---- lists

pub each_append : {A : Type 0} (P : A → Type 0) (xs ys : List A) → Each P xs → Each P ys → Each P (xs ++ ys)
each_append P [] ys h g = g
each_append P (x ∷ xs) ys h g = (h.0, each_append P xs ys h.1 g)

pub each_weaker : {A : Type 0} (P Q : A → Type 0) → ((x : A) → P x → Q x) → (xs : List A) → Each P xs → Each Q xs
each_weaker P Q weaker [] h = tt
each_weaker P Q weaker (x ∷ xs) h = (weaker x h.0, each_weaker P Q weaker xs h.1)

pub each_map : {A B : Type 0} (P : A → Type 0) (Q : B → Type 0) (f : A → B) → ((x : A) → P x → Q (f x)) → (xs : List A) → Each P xs → Each Q (map f xs)
each_map P Q f moved [] h = tt
each_map P Q f moved (x ∷ xs) h = (moved x h.0, each_map P Q f moved xs h.1)

-- ---- outcomes

module _ (P : Place → Type 0) where
  pub joined_gives : (o q : Outcome) → Gives P o → Gives P q → Gives P (joined o q)
  joined_gives (gives ps) (gives qs) h g = each_append P ps qs h g
  joined_gives (gives ps) (refused r) h g = tt
  joined_gives (refused r) q h g = tt

  kept_gives : (p : Place) (o : Option Row) → P p → Gives P (kept_or p o)
  kept_gives p None h = (h, tt)
  kept_gives p (Some row) h = tt

  all_within_gives : (ps : List Place) → Each P ps → Gives P (all_within ps)
  all_within_gives [] h = tt
  all_within_gives (p ∷ ps) h = joined_gives (within_limits p) (all_within ps) (kept_gives p (limit_row (work_at p)) h.0) (all_within_gives ps h.1)

  pub limited_gives : (o : Outcome) → Gives P o → Gives P (limited o)
  limited_gives (gives ps) h = all_within_gives ps h
  limited_gives (refused r) h = tt

  pub choice_gives : (b : Bool) (o q : Outcome) → Gives P o → Gives P q → Gives P (cond b o q)
  choice_gives true o q h g = h
  choice_gives false o q h g = g

  pub require_gives : (b : Bool) (row : Row) (name : Named) (o : Outcome) → Gives P o → Gives P (require b row name o)
  require_gives b row name o h = choice_gives b o (refuse row name) h tt

  pub require_plain_gives : (b : Bool) (row : Row) (o : Outcome) → Gives P o → Gives P (require_plain b row o)
  require_plain_gives b row o h = choice_gives b o (refuse_plain row) h tt

  pub require_some_gives : {A : Type 0} (x : Option A) (row : Row) (name : Named) (follows : A → Outcome) → ((a : A) → Gives P (follows a)) → Gives P (require_some x row name follows)
  require_some_gives (Some a) row name follows h = h a
  require_some_gives None row name follows h = tt

  pub require_entry_gives : {A : Type 0} (x : Option A) (row : Row) (follows : A → Outcome) → ((a : A) → Gives P (follows a)) → Gives P (require_entry x row follows)
  require_entry_gives (Some a) row follows h = h a
  require_entry_gives None row follows h = tt

  pub refuse_where_gives : (x : Option Named) (row : Row) (o : Outcome) → Gives P o → Gives P (refuse_where x row o)
  refuse_where_gives (Some n) row o h = tt
  refuse_where_gives None row o h = h

  pub all_spatial_gives : (goal : Goal) (list : List Named) (o : Outcome) → Gives P o → Gives P (all_spatial goal list o)
  all_spatial_gives goal list o h =
      refuse_where_gives (find (λ x. not (has_hyp goal x)) list) _ _ (refuse_where_gives (find (λ x. not (has_spat goal x)) list) _ _ (refuse_where_gives (repeated list) _ o h))

  run_of_gives : (n : ℕ) (o : Outcome) → Gives P o → EachPlace P (run_of n o)
  run_of_gives n (gives ps) h = h
  run_of_gives n (refused r) h = tt

  pub once_gives : (n : ℕ) (action : Action) (w : Work) → Gives P (action w) → EachPlace P (once n action w)
  once_gives n action w h = run_of_gives _ (limited (action w)) (limited_gives (action w) h)

  -- ---- runs

  pub adding_moves : (n : ℕ) (r : Run) → EachPlace P r → EachPlace P (adding n r)
  adding_moves n (ran m ps) h = h
  adding_moves n (stopped r) h = tt

  beside_places_moves : (n : ℕ) (ps : List Place) (r : Run) → Each P ps → EachPlace P r → EachPlace P (beside_places n ps r)
  beside_places_moves n ps (ran m qs) h g = each_append P ps qs h g
  beside_places_moves n ps (stopped r) h g = tt

  pub beside_moves : (r others : Run) → EachPlace P r → EachPlace P others → EachPlace P (beside r others)
  beside_moves (ran n ps) others h g = beside_places_moves n ps others h g
  beside_moves (stopped r) others h g = tt

module _ (P Q : Place → Type 0) where
  pub after_moves : (r : Run) (follows : List Place → Run) → EachPlace P r → Moves P Q follows → EachPlace Q (after r follows)
  after_moves (ran n ps) follows h g = adding_moves Q n (follows ps) (g ps h)
  after_moves (stopped r) follows h g = tt

  pub on_all_moves : (act : Place → Run) → ((p : Place) → P p → EachPlace Q (act p)) → Moves P Q (on_all act)
  on_all_moves act each [] h = tt
  on_all_moves act each (p ∷ ps) h = beside_moves Q (act p) (on_all act ps) (each p h.0) (on_all_moves act each ps h.1)

  pub keeping_moves : (turns : List Bool) → ((p : Place) → P p → Q (turns_behind turns p)) → (r : Run) → EachPlace P r → EachPlace Q (keeping_turns turns r)
  keeping_moves turns moved (ran n ps) h = each_map P Q (turns_behind turns) moved ps h
  keeping_moves turns moved (stopped r) h = tt

-- with a condition on each item
pub in_order_moves : {A : Type 0} (P : Place → Type 0) (T : A → Type 0) (step : A → List Place → Run) → ((x : A) → T x → Moves P P (step x)) → (xs : List A) → Each T xs → Moves P P (in_order step xs)
in_order_moves P T step moves [] given ps h = h
in_order_moves P T step moves (x ∷ xs) given ps h = after_moves P P (step x ps) (in_order step xs) (moves x given.0 ps h) (in_order_moves P T step moves xs given.1)

pub run_weaker : (P Q : Place → Type 0) → ((p : Place) → P p → Q p) → (r : Run) → EachPlace P r → EachPlace Q r
run_weaker P Q weaker (ran n ps) h = each_weaker P Q weaker ps h
run_weaker P Q weaker (stopped r) h = tt
