-- The star of a work without what is last in hand, and what stands there.
use Rattle.std.proofs.Common.{◌≡◌, suc, ◌<◌, List, [], ◌∷◌, ◌++◌, length, length-append, refl, sym, ◌∙◌, ap, arith, Some}
use Rattle.std.specs.Prelude.{slice_get, remove}
use Rattle.std.proofs.lemmas.List.{length-map}
use Rattle.pm_logic.specs.declared.formula.Formula.{Formula}
use Rattle.pm_goal.specs.declared.work.Held.{Held}
use Rattle.pm_goal.specs.declared.work.Work.{Work}
use Rattle.pm_goal.specs.Left.{of_kind, held_parts, left_of_work}
use Rattle.pm_star.specs.Stars.{star, parts, work_parts, part_at, without}
use Rattle.pm_star.proofs.Contexts.{work_star}
use Rattle.pm_star.proofs.Places.{loses_held, held_at}
use Rattle.pm_table.specs.Outcomes.{Outcome}
use Rattle.pm_table.specs.Works.{Hand, with_last, acting_on, work_of}
use Rattle.pm_action.specs.Acting.{IsLast, all_but_last, last_place}
use Rattle.pm_action.proofs.Filtered.{in_hand}

-- an action on the last in hand
pub with_last_is : (w : Work) (act : Hand → Outcome) (l : Held) → IsLast w l → with_last w act ≡ act (record { others = all_but_last w.held; last = l })
with_last_is w act l is = ap (acting_on w act) is

pub held_is : (w : Work) (l : Held) → IsLast w l → w.held ≡ all_but_last w.held ++ l ∷ []
held_is w l is = in_hand w.held (record { others = all_but_last w.held; last = l }) is

remove_end : (hs : List Held) (l : Held) → remove (hs ++ l ∷ []) (length hs) ≡ hs
remove_end [] l = refl
remove_end (h ∷ hs) l = ap (λ xs. h ∷ xs) (remove_end hs l)

get_end : (hs : List Held) (l : Held) → slice_get (hs ++ l ∷ []) (length hs) ≡ Some l
get_end [] l = refl
get_end (h ∷ hs) l = get_end hs l

module _ (w : Work) (l : Held) (is : IsLast w l) where
  abbrev pub others : List Held
  others = all_but_last w.held

  -- without it
  pub without_last : work_parts (work_of w.goal others) ≡ without (work_parts w) (last_place w)
  without_last = loses_held w (work_of w.goal others) (length others) refl (sym (ap (λ hs. remove hs (length others)) (held_is w l is) ∙ remove_end others l))

  -- what stands there
  pub part_last : part_at (work_parts w) (last_place w) ≡ of_kind l.kind l.formula
  part_last = held_at w (length others) l (ap (λ hs. slice_get hs (length others)) (held_is w l is) ∙ get_end others l)

  pub last_within : last_place w < length (work_parts w)
  last_within =
      let held_length : length w.held ≡ suc (length others) = ap length (held_is w l is) ∙ more others in
      omega (arith, held_length, length-append (parts w.goal) (held_parts w.held), length-map w.held (λ (h : Held). of_kind h.kind h.formula))
    where
      more : (hs : List Held) → length (hs ++ l ∷ []) ≡ suc (length hs)
      more [] = refl
      more (h ∷ hs) = ap suc (more hs)

-- the star of a list that is a work's parts
pub star_is : (w : Work) (fs : List Formula) → work_parts w ≡ fs → star fs ≡ left_of_work w
star_is w fs e = ap star (sym e) ∙ work_star w
