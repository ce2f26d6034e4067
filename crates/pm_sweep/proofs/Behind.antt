-- Turns that come behind those of places: what the places mean, their limits, and what an action answers.
use Rattle.std.proofs.Common.{◌≡◌, ℕ, ◌+◌, Bool, List, [], ◌∷◌, ◌++◌, map, max, refl, sym, ◌∙◌, ap, ap₂, subst, Option, Some, None}
use Rattle.std.specs.Prelude.{Ok, Err}
use Rattle.pm_goal.specs.declared.work.Work.{Work}
use Rattle.pm_goal.specs.declared.refusal.Row.{Row}
use Rattle.pm_goal.specs.declared.refusal.StepFault.{StepFault}
use Rattle.pm_goal.specs.declared.refusal.StepFault.TheVariants as fault
use Rattle.pm_proof.specs.Known.{Proves, Every}
use Rattle.pm_proof.specs.declared.proof.Parts.{Parts}
use Rattle.pm_table.specs.declared.place.Place.{Place}
use Rattle.pm_table.specs.declared.place.Place.TheVariants.{Finished as finished, Current as current}
use Rattle.pm_table.specs.Outcomes.{Outcome, gives, refused, joined}
use Rattle.pm_table.specs.Limits.{limit_row, resting, work_at, kept_or, within_limits, all_within, limited}
use Rattle.pm_table.specs.Patterns.{outcome_with}
use Rattle.pm_table.specs.Running.{rules_within, turns_behind}
use Rattle.pm_action.specs.Meanings.{meaning, meaning_at, meanings, height, greatest_height, room, width}
use Rattle.pm_action.specs.Acting.{Answers, IsActed}

module _ (turns : List Bool) where
  abbrev behind : Place → Place
  behind p = turns_behind turns p

  -- ---- meanings

  same_meaning : (p : Place) → meaning_at (behind p) ≡ meaning_at p
  same_meaning (finished goal) = refl
  same_meaning (current new w) = refl

  pub same_meanings : (ps : List Place) → meanings (map (turns_behind turns) ps) ≡ meanings ps
  same_meanings [] = refl
  same_meanings (p ∷ ps) = ap₂ (λ e es. e ∷ es) (same_meaning p) (same_meanings ps)

  same_height : (p : Place) → height (work_at (behind p)) ≡ height (work_at p)
  same_height (finished goal) = refl
  same_height (current new w) = refl

  same_heights : (ps : List Place) → greatest_height (map (turns_behind turns) ps) ≡ greatest_height ps
  same_heights [] = refl
  same_heights (p ∷ ps) = ap₂ (λ n m. max n m) (same_height p) (same_heights ps)

  -- ---- limits

  kept_behind : (p : Place) (o : Option Row) → kept_or (behind p) o ≡ outcome_with turns (kept_or p o)
  kept_behind p None = refl
  kept_behind p (Some row) = refl

  within_behind : (p : Place) → within_limits (behind p) ≡ outcome_with turns (within_limits p)
  within_behind (finished goal) = kept_behind (finished goal) (limit_row (resting goal))
  within_behind (current new w) = kept_behind (current new w) (limit_row w)

  map_both : (ps qs : List Place) → map (turns_behind turns) ps ++ map (turns_behind turns) qs ≡ map (turns_behind turns) (ps ++ qs)
  map_both [] qs = refl
  map_both (p ∷ ps) qs = ap (λ xs. behind p ∷ xs) (map_both ps qs)

  joined_behind : (o q : Outcome) → joined (outcome_with turns o) (outcome_with turns q) ≡ outcome_with turns (joined o q)
  joined_behind (gives ps) (gives qs) = ap gives (map_both ps qs)
  joined_behind (gives ps) (refused r) = refl
  joined_behind (refused r) q = refl

  all_behind : (ps : List Place) → all_within (map (turns_behind turns) ps) ≡ outcome_with turns (all_within ps)
  all_behind [] = refl
  all_behind (p ∷ ps) = ap₂ joined (within_behind p) (all_behind ps) ∙ joined_behind (within_limits p) (all_within ps)

  limited_behind : (o : Outcome) → limited (outcome_with turns o) ≡ outcome_with turns (limited o)
  limited_behind (gives ps) = all_behind ps
  limited_behind (refused r) = refl

  -- ---- answers

  answers_behind : (s : ℕ) (w : Work) (o : Outcome) (old new : Parts Place) → Answers s w o (Ok old) → new.goals ≡ map (turns_behind turns) old.goals → new.proof ≡ old.proof → Answers s w (outcome_with turns o) (Ok new)
  answers_behind s w (refused r) old new answer goals is = answer
  answers_behind s w (gives ps) old new answer goals is =
      let a : Proves Every (meaning w) (meanings ps) (rules_within s) (room w ps) (width w) new.proof = subst (λ t. IsActed s w ps t) (sym is) answer.1 in
      let b : Proves Every (meaning w) (meanings (map (turns_behind turns) ps)) (rules_within s) (room w ps) (width w) new.proof = subst (λ es. Proves Every (meaning w) es (rules_within s) (room w ps) (width w) new.proof) (sym (same_meanings ps)) a in
      let higher : room w ps ≡ room w (map (turns_behind turns) ps) = ap (λ n. max (height w) n + 16) (sym (same_heights ps)) in
      (goals ∙ ap (λ qs. map (turns_behind turns) qs) answer.0, subst (λ d. Proves Every (meaning w) (meanings (map (turns_behind turns) ps)) (rules_within s) d (width w) new.proof) higher b)

  pub opened : (s : ℕ) (w : Work) (o : Outcome) (old new : Parts Place) → Answers s w (limited o) (Ok old) → new.goals ≡ map (turns_behind turns) old.goals → new.proof ≡ old.proof → Answers s w (limited (outcome_with turns o)) (Ok new)
  opened s w o old new answer goals is = subst (λ q. Answers s w q (Ok new)) (sym (limited_behind o)) (answers_behind s w (limited o) old new answer goals is)

  fails_behind : (s : ℕ) (w : Work) (o : Outcome) (e : StepFault) → Answers s w o (Err e) → Answers s w (outcome_with turns o) (Err e)
  fails_behind s w (gives ps) (fault.Refused x) answer = answer
  fails_behind s w (gives ps) fault.Memory answer = tt
  fails_behind s w (refused r) e answer = answer

  pub not_opened : (s : ℕ) (w : Work) (o : Outcome) (e : StepFault) → Answers s w (limited o) (Err e) → Answers s w (limited (outcome_with turns o)) (Err e)
  not_opened s w o e answer = subst (λ q. Answers s w q (Err e)) (sym (limited_behind o)) (fails_behind s w (limited o) e answer)

pub lost : (s : ℕ) (w : Work) (o : Outcome) → Answers s w o (Err fault.Memory)
lost s w (gives ps) = tt
lost s w (refused r) = tt
