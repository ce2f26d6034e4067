-- The star of a work whose last in hand goes to another place.
use Rattle.std.proofs.Common.{◌≡◌, ℕ, ◌+◌, ◌<◌, ◌≤◌, List, length, length-append, refl, sym, ◌∙◌, ap, ap₂, subst, arith, insert}
use Rattle.std.proofs.lemmas.List.{length-map}
use Rattle.pm_logic.specs.declared.formula.Formula.{Formula}
use Rattle.pm_logic.specs.declared.formula.Formula.TheVariants.{Pure as Assert}
use Rattle.pm_goal.specs.declared.goal.Hyp.{Hyp}
use Rattle.pm_goal.specs.declared.goal.Fact.{Fact}
use Rattle.pm_goal.specs.declared.goal.Goal.{Goal}
use Rattle.pm_goal.specs.declared.work.Kind.{Kind}
use Rattle.pm_goal.specs.declared.work.Kind.TheVariants as kind
use Rattle.pm_goal.specs.declared.work.Held.{Held}
use Rattle.pm_goal.specs.declared.work.Work.{Work}
use Rattle.pm_goal.specs.Left.{of_kind, facts, hyps_as, hyps, left_of_work}
use Rattle.pm_proof.specs.Trees.{Tree}
use Rattle.pm_star.specs.Stars.{star, shared, parts, work_parts, Moves}
use Rattle.pm_star.specs.Chains.{moved}
use Rattle.pm_star.proofs.Places.{gains_int, gains_spat}
use Rattle.pm_table.specs.Works.{Named, hyp, work_of, with_hyp}
use Rattle.pm_action.specs.Acting.{IsLast, all_but_last, last_place}
use Rattle.pm_action.proofs.Hands.{without_last, part_last, last_within, star_is}
use Rattle.pm_hand.specs.Changed.{end_of, named}

pub shared_count : (g : Goal) → length (shared g) ≡ length g.pures + length g.ints
shared_count g = omega (arith, length-append (facts g.pures) (hyps_as kind.Int g.ints), length-map g.pures (λ (f : Fact). Assert f.pure), length-map g.ints (λ (h : Hyp). of_kind kind.Int h.formula))

pub goal_count : (g : Goal) → length (parts g) ≡ length g.pures + length g.ints + length g.spats
goal_count g = omega (arith, shared_count g, length-append (shared g) (hyps g.spats), length-map g.spats (λ (h : Hyp). of_kind kind.Spat h.formula))

-- the place of a new hypothesis of the kind is in the goal
pub end_within : (k : Kind) (g : Goal) → end_of k g ≤ length (parts g)
end_within kind.Int g = omega (arith, goal_count g)
end_within kind.Spat g = omega (arith, goal_count g)

-- with the last at the end of its context
gains_hyp : (k : Kind) (w : Work) (name : Named) (f : Formula) (hs : List Held) → work_parts (work_of (with_hyp k name f w.goal) hs) ≡ insert (work_parts (work_of w.goal hs)) (end_of k w.goal) (of_kind k f)
gains_hyp kind.Int w name f hs = gains_int (work_of w.goal hs) (work_of (with_hyp kind.Int name f w.goal) hs) (hyp name f) refl refl refl refl ∙ ap (λ n. insert (work_parts (work_of w.goal hs)) n (of_kind kind.Int f)) (shared_count w.goal)
gains_hyp kind.Spat w name f hs = gains_spat (work_of w.goal hs) (work_of (with_hyp kind.Spat name f w.goal) hs) (hyp name f) refl refl refl refl ∙ ap (λ n. insert (work_parts (work_of w.goal hs)) n (of_kind kind.Spat f)) (goal_count w.goal)

pub named_parts : (w : Work) (l : Held) (name : Named) → IsLast w l → work_parts (named w l name) ≡ moved (work_parts w) (last_place w) (end_of l.kind w.goal)
named_parts w l name is =
    gains_hyp l.kind w name l.formula (all_but_last w.held)
    ∙ ap₂ (λ fs f. insert fs (end_of l.kind w.goal) f) (without_last w l is) (sym (part_last w l is))

pub named_star : (w : Work) (l : Held) (name : Named) → IsLast w l → star (moved (work_parts w) (last_place w) (end_of l.kind w.goal)) ≡ left_of_work (named w l name)
named_star w l name is = star_is (named w l name) (moved (work_parts w) (last_place w) (end_of l.kind w.goal)) (named_parts w l name is)

-- a move to where it is named
pub named_moves : (w : Work) (l : Held) (name : Named) (from place : ℕ) (p : Tree) → IsLast w l → from ≡ last_place w → place ≡ end_of l.kind w.goal
    → Moves (length w.goal.vars) (length (work_parts w)) (left_of_work w) (star (moved (work_parts w) from place)) p
    → Moves (length w.goal.vars) (length (work_parts w)) (left_of_work w) (left_of_work (named w l name)) p
named_moves w l name from place p is from_is at m =
    subst (λ r. Moves (length w.goal.vars) (length (work_parts w)) (left_of_work w) r p) (ap₂ (λ i n. star (moved (work_parts w) i n)) from_is at ∙ named_star w l name is) m

pub end_inside : (w : Work) (l : Held) → IsLast w l → end_of l.kind w.goal < length (work_parts w)
end_inside w l is = omega (arith, end_within l.kind w.goal, last_within w l is)
