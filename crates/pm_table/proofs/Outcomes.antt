-- What holds of each work that an action gives, whichever of its rows it answers.
use Rattle.std.proofs.Common.{◌≡◌, Bool, true, false, cond, not, find, List, [], ◌∷◌, refl, Option, Some, None}
use Rattle.pm_goal.specs.declared.goal.Goal.{Goal}
use Rattle.pm_goal.specs.declared.work.Work.{Work}
use Rattle.pm_goal.specs.declared.refusal.Row.{Row}
use Rattle.pm_table.specs.Outcomes.{Outcome, gives, refused, Action, refuse, refuse_plain, require, require_plain, require_some, require_entry, joined}
use Rattle.pm_table.specs.declared.place.Place.{Place}
use Rattle.pm_table.specs.Limits.{limit_row, work_at, kept_or, within_limits, all_within, limited}
use Rattle.pm_table.specs.Works.{Named, has_hyp, has_spat, Hand, hand_of, acting_on, with_last}
use Rattle.pm_table.specs.Basic.{all_spatial, refuse_where, repeated}
use Rattle.pm_table.specs.Patterns.{outcome_with}
use Rattle.pm_table.proofs.Keeping.{Everywhere, InOutcome, Good, everywhere_append, everywhere_turns}

module _ (P : Work → Type 0) where
  pub joined_in : (o q : Outcome) → InOutcome P o → InOutcome P q → InOutcome P (joined o q)
  joined_in (gives ps) (gives qs) h g = everywhere_append P ps qs h g
  joined_in (gives ps) (refused r) h g = tt
  joined_in (refused r) q h g = tt

  kept_in : (p : Place) (o : Option Row) → P (work_at p) → InOutcome P (kept_or p o)
  kept_in p None h = (h, tt)
  kept_in p (Some row) h = tt

  all_within_in : (ps : List Place) → Everywhere P ps → InOutcome P (all_within ps)
  all_within_in [] h = tt
  all_within_in (p ∷ ps) h = joined_in (within_limits p) (all_within ps) (kept_in p (limit_row (work_at p)) h.0) (all_within_in ps h.1)

  pub limited_in : (o : Outcome) → InOutcome P o → InOutcome P (limited o)
  limited_in (gives ps) h = all_within_in ps h
  limited_in (refused r) h = tt

  -- what the rows of an action keep, the action keeps
  pub good : (action : Action) → ((w : Work) → P w → InOutcome P (action w)) → Good P action
  good action keeps w h = limited_in (action w) (keeps w h)

  pub opening_in : (turns : List Bool) (o : Outcome) → InOutcome P o → InOutcome P (outcome_with turns o)
  opening_in turns (gives ps) h = everywhere_turns P turns ps h
  opening_in turns (refused r) h = tt

  pub chosen_in : (b : Bool) (o q : Outcome) → (b ≡ true → InOutcome P o) → (b ≡ false → InOutcome P q) → InOutcome P (cond b o q)
  chosen_in true o q h g = h refl
  chosen_in false o q h g = g refl

  pub require_in : (b : Bool) (row : Row) (name : Named) (o : Outcome) → (b ≡ true → InOutcome P o) → InOutcome P (require b row name o)
  require_in b row name o h = chosen_in b o (refuse row name) h (λ e. tt)

  pub require_plain_in : (b : Bool) (row : Row) (o : Outcome) → (b ≡ true → InOutcome P o) → InOutcome P (require_plain b row o)
  require_plain_in b row o h = chosen_in b o (refuse_plain row) h (λ e. tt)

  pub require_some_in : {A : Type 0} (x : Option A) (row : Row) (name : Named) (follows : A → Outcome) → ((a : A) → x ≡ Some a → InOutcome P (follows a)) → InOutcome P (require_some x row name follows)
  require_some_in (Some a) row name follows h = h a refl
  require_some_in None row name follows h = tt

  pub require_entry_in : {A : Type 0} (x : Option A) (row : Row) (follows : A → Outcome) → ((a : A) → x ≡ Some a → InOutcome P (follows a)) → InOutcome P (require_entry x row follows)
  require_entry_in (Some a) row follows h = h a refl
  require_entry_in None row follows h = tt

  pub refuse_where_in : (x : Option Named) (row : Row) (o : Outcome) → InOutcome P o → InOutcome P (refuse_where x row o)
  refuse_where_in (Some n) row o h = tt
  refuse_where_in None row o h = h

  pub all_spatial_in : (goal : Goal) (list : List Named) (o : Outcome) → InOutcome P o → InOutcome P (all_spatial goal list o)
  all_spatial_in goal list o h =
      refuse_where_in (find (λ x. not (has_hyp goal x)) list) _ _ (refuse_where_in (find (λ x. not (has_spat goal x)) list) _ _ (refuse_where_in (repeated list) _ o h))

  acting_in : (w : Work) (act : Hand → Outcome) (o : Option Hand) → P w → ((hand : Hand) → o ≡ Some hand → InOutcome P (act hand)) → InOutcome P (acting_on w act o)
  acting_in w act None h g = (h, tt)
  acting_in w act (Some hand) h g = g hand refl

  pub with_last_in : (w : Work) (act : Hand → Outcome) → P w → ((hand : Hand) → hand_of w.held ≡ Some hand → InOutcome P (act hand)) → InOutcome P (with_last w act)
  with_last_in w act h g = acting_in w act (hand_of w.held) h g
