-- What is last in hand is framed.
use Rattle.std.proofs.Common.{◌≡◌, ℕ, zero, suc, ◌+◌, ◌*◌, ◌<◌, ◌≤◌, [], ◌∷◌, List, ◌++◌, length, refl, sym, ◌∙◌, ap, ap₂, subst, arith, Option, Some, None}
use Rattle.std.specs.Prelude.{Result, Err}
use Rattle.pm_logic.specs.declared.formula.Formula.{Formula}
use Rattle.pm_logic.specs.declared.formula.Formula.TheViews as view
use Rattle.pm_logic.specs.declared.formula.Preds.{Preds}
use Rattle.pm_logic.specs.Scope.{Scoped}
use Rattle.pm_logic.specs.Size.{depth_of}
use Rattle.pm_goal.specs.declared.work.Held.{Held}
use Rattle.pm_goal.specs.declared.work.Work.{Work}
use Rattle.pm_goal.specs.declared.refusal.Row.TheVariants.{NothingFramed}
use Rattle.pm_goal.specs.declared.refusal.StepFault.{StepFault}
use Rattle.pm_goal.specs.declared.refusal.StepFault.TheVariants as fault
use Rattle.pm_goal.specs.Left.{star_onto, of_kind, left_of_work}
use Rattle.pm_proof.specs.Trees.{Tree, entail}
use Rattle.pm_proof.specs.Known.{Proves, Every}
use Rattle.pm_proof.specs.declared.proof.Parts.{Parts}
use Rattle.pm_proof.proofs.Fills.{weaker}
use Rattle.pm_star.specs.Stars.{star, work_parts, part_at, without, in_front, room as star_room, Moves}
use Rattle.pm_star.proofs.Contexts.{work_star}
use Rattle.pm_star.proofs.Scoping.{depth_sep, front_scoped, part_deep}
use Rattle.pm_table.specs.declared.place.Place.{Place}
use Rattle.pm_table.specs.Framing.{frame}
use Rattle.pm_table.specs.Outcomes.{Outcome, require_entry}
use Rattle.pm_table.specs.Limits.{limited, all_nodes, work_formulas}
use Rattle.pm_table.specs.Works.{work_of}
use Rattle.pm_table.specs.Terms as table
use Rattle.pm_action.specs.Meanings.{height}
use Rattle.pm_action.specs.Acting.{Answers, IsLast, last_place, plainly}
use Rattle.pm_action.proofs.Heights.{star_height}
use Rattle.pm_action.proofs.Hands.{with_last_is, without_last, part_last, last_within, star_is}
use Rattle.pm_hand.specs.Changed.{dropped}
use Rattle.pm_frame.specs.declared.framed.Framed.{Framed}
use Rattle.pm_frame.specs.Frames.{FrameProof, FrameAnswers, FrameAnswer}
use Rattle.pm_framing.specs.Parting.{IsApart}

-- ---- a part in front

-- a star with a part less is no deeper
less_deep : (fs : List Formula) (i : ℕ) → depth_of (star (without fs i)) ≤ depth_of (star fs)
unfolding star_onto
less_deep [] zero = omega arith
less_deep [] (suc i) = omega arith
less_deep (f ∷ fs) zero = omega (arith, depth_sep f (star fs))
less_deep (f ∷ fs) (suc i) = omega (arith, less_deep fs i, depth_sep f (star fs), depth_sep f (star (without fs i)))

star_front : (fs : List Formula) (i : ℕ) → star (in_front fs i) ≡ view.Sep (part_at fs i) (star (without fs i))
unfolding star_onto
star_front fs i = refl

-- a part that is brought to the front, beside the star of a work that has the others
pub front_apart : (w rest : Work) (place : ℕ) (part : Formula) (t : Tree) → place < length (work_parts w) → part_at (work_parts w) place ≡ part → work_parts rest ≡ without (work_parts w) place
    → Moves (length w.goal.vars) (length (work_parts w)) (left_of_work w) (star (in_front (work_parts w) place)) t → IsApart w part (left_of_work rest) t
front_apart w rest place part t inside is others m0 =
    let k = length w.goal.vars in
    let fs = work_parts w in
    let x = left_of_work w in
    let l = left_of_work rest in
    let whole : star fs ≡ x = work_star w in
    let l_is : star (without fs place) ≡ l = star_is rest (without fs place) others in
    let front : star (in_front fs place) ≡ view.Sep part l = star_front fs place ∙ ap₂ (λ a b. view.Sep a b) is l_is in
    let m : Moves k (length fs) x (view.Sep part l) t = subst (λ r. Moves k (length fs) x r t) front m0 in
    let deep : suc (depth_of part) ≤ depth_of x = subst (λ g. suc (depth_of part) ≤ depth_of g) whole (subst (λ g. suc (depth_of g) ≤ depth_of (star fs)) is (part_deep fs place inside)) in
    let low : depth_of l ≤ depth_of x = subst (λ g. depth_of l ≤ depth_of g) whole (subst (λ g. depth_of g ≤ depth_of (star fs)) l_is (less_deep fs place)) in
    record {
      proves = weaker Every (entail k x (view.Sep part l)) [] (100 * (length fs + 1)) (star_room x (view.Sep part l)) k (100 * length fs + 100) (height w + 10) k t (omega arith) (omega (arith, star_height w, deep, low, depth_sep part l)) (omega arith) m;
      scoped = λ preds s. subst (Scoped preds k) front (front_scoped preds k fs place (subst (Scoped preds k) (sym whole) s));
      part_depth = omega (arith, star_height w, deep);
      left_depth = omega (arith, star_height w, low);
    }

pub last_is_apart : (w : Work) (l : Held) (place : ℕ) (t : Tree) → IsLast w l → place ≡ last_place w
    → Moves (length w.goal.vars) (length (work_parts w)) (left_of_work w) (star (in_front (work_parts w) place)) t → IsApart w (of_kind l.kind l.formula) (left_of_work (dropped w)) t
last_is_apart w l place t is at m =
    front_apart w (dropped w) (last_place w) (of_kind l.kind l.formula) t (last_within w l is) (part_last w l is) (without_last w l is)
    (subst (λ n. Moves (length w.goal.vars) (length (work_parts w)) (left_of_work w) (star (in_front (work_parts w) n)) t) at m)

-- ---- what framing answered

pub record HasRest (k : ℕ) (r q : Formula) (f : Framed) : Type 0 where
  pub row : frame r q ≡ Some f.rest
  pub proof : FrameProof k r q f.rest f.proof

answered : (k : ℕ) (r q : Formula) (f : Framed) (o : Option Formula) → frame r q ≡ o → FrameAnswers k r q o (Some f) → HasRest k r q f
answered k r q f None e a = absurd a
answered k r q f (Some g) e a = record { row = e ∙ ap Some (sym a.rest); proof = subst (λ x. FrameProof k r q x f.proof) (sym a.rest) a.proof }

pub is_framed : (k : ℕ) (r q : Formula) (f : Framed) → FrameAnswer k r q (Some f) → HasRest k r q f
is_framed k r q f a = answered k r q f (frame r q) refl a

unanswered : (k : ℕ) (r q : Formula) (o : Option Formula) → frame r q ≡ o → FrameAnswers k r q o None → frame r q ≡ None
unanswered k r q None e a = e
unanswered k r q (Some g) e a = absurd a

pub not_framed : (k : ℕ) (r q : Formula) → FrameAnswer k r q None → frame r q ≡ None
not_framed k r q a = unanswered k r q (frame r q) refl a

pub proof_of : (k n : ℕ) (r q : Formula) (f : Framed) → k ≡ n → FrameAnswer k r q (Some f) → FrameProof n r q f.rest f.proof
proof_of k n r q f e a = subst (λ j. FrameProof j r q f.rest f.proof) e (is_framed k r q f a).proof

-- ---- the row

abbrev held_row : Work → Option Formula → Outcome
held_row w o = require_entry o NothingFramed (λ rest. table.concluding rest (dropped w))

row_is : (w : Work) (l : Held) → IsLast w l → table.frame_held w ≡ held_row w (frame l.formula w.goal.concl)
row_is w l is = with_last_is w (λ hand. require_entry (frame hand.last.formula w.goal.concl) NothingFramed (λ rest. table.concluding rest (work_of w.goal hand.others))) l is

pub held_framed : (k : ℕ) (w : Work) (l : Held) (f : Framed) (r : Result (Parts Place) StepFault) → IsLast w l → FrameAnswer k l.formula w.goal.concl (Some f) → Answers (all_nodes (work_formulas w)) w (limited (table.concluding f.rest (dropped w))) r
    → Answers (all_nodes (work_formulas w)) w (limited (table.frame_held w)) r
held_framed k w l f r is a g =
    subst (λ o. Answers (all_nodes (work_formulas w)) w (limited o) r) (ap (held_row w) (sym (is_framed k l.formula w.goal.concl f a).row) ∙ sym (row_is w l is)) g

pub held_refused : (k : ℕ) (w : Work) (l : Held) (f : StepFault) → IsLast w l → FrameAnswer k l.formula w.goal.concl None → f ≡ fault.Refused (plainly NothingFramed) → Answers (all_nodes (work_formulas w)) w (limited (table.frame_held w)) (Err f)
held_refused k w l f is a e =
    subst (λ o. Answers (all_nodes (work_formulas w)) w (limited o) (Err f)) (ap (held_row w) (sym (not_framed k l.formula w.goal.concl a)) ∙ sym (row_is w l is)) (rw e refl)
