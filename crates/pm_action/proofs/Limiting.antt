-- The first limit that a list of places passes.
use Rattle.std.proofs.Common.{◌≡◌, ℕ, zero, suc, ◌+◌, ◌<◌, ◌≤◌, List, [], ◌∷◌, ◌++◌, length, drop, take, get_or, refl, sym, ◌∙◌, ap, ap₂, subst, arith, Option, Some, None}
use Rattle.std.proofs.lemmas.List.{append-nil, append_assoc}
use Rattle.pm_goal.specs.declared.refusal.Row.{Row}
use Rattle.pm_goal.specs.declared.refusal.StepFault.{StepFault}
use Rattle.pm_goal.specs.declared.refusal.StepFault.TheVariants as fault
use Rattle.std.specs.Prelude.{Ok, Err}
use Rattle.pm_proof.specs.Trees.{Tree}
use Rattle.pm_table.specs.declared.place.Place.{Place}
use Rattle.pm_table.specs.Outcomes.{Outcome, gives, refused, joined}
use Rattle.pm_table.specs.Limits.{limit_row, work_at, within_limits, all_within}
use Rattle.pm_action.specs.Acting.{AnswersOver, EndsOver, plainly}
use Rattle.pm_action.proofs.Sums.{from_place, none_left}

-- the places before this one are within the limits
pub record IsWithinBefore (ps : List Place) (i : ℕ) : Type 0 where
  pub within : i ≤ length ps
  pub is : all_within ps ≡ joined (gives (take i ps)) (all_within (drop i ps))

none_before : (o : Outcome) → o ≡ joined (gives []) o
none_before (gives ps) = refl
none_before (refused r) = refl

pub begins : (ps : List Place) → IsWithinBefore ps 0
begins ps = record { within = omega arith; is = none_before (all_within ps) }

joined_assoc : (ps : List Place) (p : Place) (o : Outcome) → joined (gives ps) (joined (gives (p ∷ [])) o) ≡ joined (gives (ps ++ p ∷ [])) o
joined_assoc ps p (gives qs) = ap gives (sym (append_assoc ps (p ∷ []) qs))
joined_assoc ps p (refused r) = refl

take_more : (ps : List Place) (i : ℕ) (p : Place) → i < length ps → p ≡ get_or ps i p → take (suc i) ps ≡ take i ps ++ p ∷ []
take_more [] i p lt at = absurd (omega (arith, lt))
take_more (q ∷ ps) zero p lt at = ap (λ x. x ∷ []) (sym at)
take_more (q ∷ ps) (suc i) p lt at = ap (λ qs. q ∷ qs) (take_more ps i p (omega (arith, lt)) at)

row_kept : (p : Place) (o : Option Row) → limit_row (work_at p) ≡ o → o ≡ None → within_limits p ≡ gives (p ∷ [])
row_kept p None is e = rw is refl
row_kept p (Some row) is e = absurd cc

pub goes_on : (ps : List Place) (i j : ℕ) (p : Place) (o : Option Row) → j ≡ i + 1 → i < length ps → p ≡ get_or ps i p → o ≡ limit_row (work_at p) → o ≡ None → IsWithinBefore ps i → IsWithinBefore ps j
goes_on ps i j p o next lt at is none before = record {
  within = omega (arith, next, lt);
  is =
      let j_is : suc i ≡ j = omega (arith, next) in
      subst (λ n. all_within ps ≡ joined (gives (take n ps)) (all_within (drop n ps))) j_is
      (before.is
      ∙ ap (λ qs. joined (gives (take i ps)) (all_within qs)) (from_place ps i p lt at)
      ∙ ap (λ x. joined (gives (take i ps)) (joined x (all_within (drop (suc i) ps)))) (row_kept p (limit_row (work_at p)) refl (sym is ∙ none))
      ∙ joined_assoc (take i ps) p (all_within (drop (suc i) ps))
      ∙ ap (λ qs. joined (gives qs) (all_within (drop (suc i) ps))) (sym (take_more ps i p lt at)));
}

row_refused : (p : Place) (o : Option Row) (row : Row) → limit_row (work_at p) ≡ o → o ≡ Some row → within_limits p ≡ refused (plainly row)
row_refused p None row is e = absurd cc
row_refused p (Some x) row is e = let same : x ≡ row = cc in rw is (ap (λ r. refused (plainly r)) same)

stops_at : (ps : List Place) (i : ℕ) (p : Place) (row : Row) → i < length ps → p ≡ get_or ps i p → limit_row (work_at p) ≡ Some row → IsWithinBefore ps i → all_within ps ≡ refused (plainly row)
stops_at ps i p row lt at is before =
    before.is
    ∙ ap (λ qs. joined (gives (take i ps)) (all_within qs)) (from_place ps i p lt at)
    ∙ ap (λ x. joined (gives (take i ps)) (joined x (all_within (drop (suc i) ps)))) (row_refused p (limit_row (work_at p)) row refl is)

pub refuses_at : (ps : List Place) (t : Tree) (i : ℕ) (p : Place) (row : Row) (o : Option Row) (f : StepFault) → i < length ps → p ≡ get_or ps i p → o ≡ limit_row (work_at p) → o ≡ Some row → IsWithinBefore ps i → f ≡ fault.Refused (plainly row) → EndsOver ps t (Err f)
refuses_at ps t i p row o f lt at is some before e on k s w acted =
    let all : all_within ps ≡ refused (plainly row) = stops_at ps i p row lt at (sym is ∙ some) before in
    rw e (subst (λ x. AnswersOver on k s w x (Err (fault.Refused (plainly row)))) (sym all) refl)

all_taken : (ps : List Place) → take (length ps) ps ≡ ps
all_taken [] = refl
all_taken (p ∷ ps) = ap (λ qs. p ∷ qs) (all_taken ps)

end_joined : (ps : List Place) → joined (gives ps) (gives []) ≡ gives ps
end_joined ps = ap gives (append-nil ps)

pub ends : (ps : List Place) (t : Tree) (i : ℕ) → length ps ≤ i → IsWithinBefore ps i → EndsOver ps t (Ok (record { goals = ps; proof = t }))
ends ps t i le before on k s w acted =
    let i_is : i ≡ length ps = omega (arith, le, before.within) in
    let all : all_within ps ≡ gives ps = (before.is ∙ ap (λ n. joined (gives (take n ps)) (all_within (drop n ps))) i_is) ∙ ap₂ (λ xs ys. joined (gives xs) (all_within ys)) (all_taken ps) (none_left ps) ∙ end_joined ps in
    subst (λ x. AnswersOver on k s w x (Ok (record { goals = ps; proof = t }))) (sym all) (refl, acted)
