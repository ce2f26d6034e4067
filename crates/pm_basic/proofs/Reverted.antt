-- A hypothesis or fact goes before the conclusion.
use Rattle.std.proofs.Common.{◌≡◌, inl, inr, ℕ, suc, ◌+◌, max, List, [], ◌∷◌, length, refl, sym, ◌∙◌, ap, subst, arith, Option, Some, None}
use Rattle.std.specs.Prelude.{Result, Err}
use Rattle.pm_logic.specs.declared.formula.Formula.{Formula}
use Rattle.pm_logic.specs.declared.formula.Formula.TheViews as view
use Rattle.pm_logic.specs.Size.{depth_of}
use Rattle.pm_logic.specs.Trees.{Wand}
use Rattle.pm_logic.proofs.Sizes.{depth_pair}
use Rattle.pm_logic.proofs.Views.{view_wand}
use Rattle.pm_goal.specs.declared.goal.Goal.{Goal}
use Rattle.pm_goal.specs.declared.work.Work.{Work}
use Rattle.pm_goal.specs.declared.refusal.Row.TheVariants.{NoSuchHypothesis}
use Rattle.pm_goal.specs.declared.refusal.StepFault.{StepFault}
use Rattle.pm_goal.specs.Left.{star_onto, left_of_work}
use Rattle.pm_rules.specs.declared.rules.Entail.{Entail}
use Rattle.pm_rules.specs.declared.pattern.Binary.TheVariants as binary
use Rattle.pm_rules.proofs.Matched.{two_same}
use Rattle.pm_proof.specs.Trees.{Tree, entail, conclusion}
use Rattle.pm_proof.specs.Known.{Proves, Every}
use Rattle.pm_proof.specs.declared.proof.Parts.{Parts}
use Rattle.pm_proof.proofs.Fills.{weaker}
use Rattle.pm_schemes.specs.Sketches.{deepest}
use Rattle.pm_schemes.proofs.Scopes.{scoped_two}
use Rattle.pm_star.specs.Stars.{star, work_parts, part_at, without, in_front, Moves}
use Rattle.pm_star.specs.Chains.{ChainProves}
use Rattle.pm_star.proofs.Scoping.{sep_scoped, depth_sep}
use Rattle.pm_table.specs.declared.place.Place.{Place}
use Rattle.pm_table.specs.declared.place.Place.TheVariants.{Current as current}
use Rattle.pm_table.specs.Outcomes.{Outcome, require_some}
use Rattle.pm_table.specs.Limits.{limited, resting, work_formulas, all_nodes}
use Rattle.pm_table.specs.Works.{Named, without_named}
use Rattle.pm_table.specs.Stepping.{NamesDiffer}
use Rattle.pm_table.specs.Basic.{for, on_goal, revert, reverted, gives_goal}
use Rattle.pm_action.specs.Meanings.{meaning, room, width}
use Rattle.pm_action.specs.Acting.{Answers, Refuses, Ends}
use Rattle.pm_action.proofs.Heights.{concl_height, star_height}
use Rattle.pm_basic.specs.declared.reverting.Front.{Front}
use Rattle.pm_basic.specs.Named.{place_named}
use Rattle.pm_basic.specs.Fronts.{IsFront}
use Rattle.pm_basic.proofs.Ending.{on_rest, refused_by, rest_parts, IsStep, stepped}
use Rattle.pm_basic.proofs.Naming.{no_part}
use Rattle.pm_basic.proofs.Cleared as clearing

pub front_is : (fs : List Formula) (n : ℕ) → star (in_front fs n) ≡ view.Sep (part_at fs n) (star (without fs n))
unfolding star_onto
front_is fs n = refl

-- what the front part is, by the right side of the proof
pub front_done : (w : Work) (n : ℕ) (e : Entail) (a b part : Formula) (t : Tree) → e ≡ conclusion t → e.right ≡ view.Sep a b → part ≡ a
    → Moves (length w.goal.vars) (length (work_parts w)) (left_of_work w) (star (in_front (work_parts w) n)) t
    → IsFront w (part_at (work_parts w) n) (star (without (work_parts w) n)) (record { part = part; moved = t })
front_done w n e a b part t is right same m =
    let fs : List Formula = work_parts w in
    let sides : view.Sep a b ≡ view.Sep (part_at fs n) (star (without fs n)) = sym right ∙ ap (λ (x : Entail). x.right) (is ∙ m.concludes) ∙ front_is fs n in
    record {
      part = same ∙ (two_same binary.Sep a b (part_at fs n) (star (without fs n)) sides).0;
      moved = subst (λ (y : Formula). Moves (length w.goal.vars) (length fs) (left_of_work w) y t) (front_is fs n) m;
    }

pub front_always : (w : Work) (n : ℕ) (e : Entail) (t : Tree) → e ≡ conclusion t → ((a b : Formula) → ¬ (e.right ≡ view.Sep a b))
    → Moves (length w.goal.vars) (length (work_parts w)) (left_of_work w) (star (in_front (work_parts w) n)) t → ⊥
front_always w n e t is never m =
    let fs : List Formula = work_parts w in
    never (part_at fs n) (star (without fs n)) (ap (λ (x : Entail). x.right) (is ∙ m.concludes) ∙ front_is fs n)

module _ (w : Work) (name : Named) (n : ℕ) (nothing : w.held ≡ []) (apart : NamesDiffer w.goal) (named : place_named name w.goal ≡ Some n) where
  abbrev rest : Formula
  rest = star (without (work_parts w) n)

  abbrev new_goal : Formula → Goal
  new_goal a = for (view.Wand a w.goal.concl) (without_named name w.goal)

  -- the row's formula
  row_part : reverted name w.goal ≡ Some (part_at (work_parts w) n)
  row_part = (clearing.part w name n nothing apart named).reverted ∙ ap (λ (fs : List Formula). Some (part_at fs n)) (sym (rest_parts w nothing))

  rest_is : star (without (work_parts w) n) ≡ left_of_work (resting (without_named name w.goal))
  rest_is = clearing.without_is w name n nothing apart named

  outcome_is : (s : ℕ) (a : Formula) (r : Result (Parts Place) StepFault) → a ≡ part_at (work_parts w) n → Answers s w (limited (gives_goal (new_goal a))) r → Answers s w (limited (on_goal (revert name) w)) r
  outcome_is s a r is h =
      let row : reverted name w.goal ≡ Some a = row_part ∙ ap Some (sym is) in
      let follows : Formula → Outcome = λ x. gives_goal (for (Wand x w.goal.concl) (without_named name w.goal)) in
      on_rest s w (revert name) r nothing
      (subst (λ (o : Option Formula). Answers s w (limited (require_some o NoSuchHypothesis name follows)) r) (sym row)
      (subst (λ (c : Formula). Answers s w (limited (gives_goal (for c (without_named name w.goal)))) r) (view_wand a w.goal.concl) h))

  step_is : (a : Formula) (moved step : Tree) → a ≡ part_at (work_parts w) n
      → Moves (length w.goal.vars) (length (work_parts w)) (left_of_work w) (view.Sep (part_at (work_parts w) n) (star (without (work_parts w) n))) moved
      → Proves Every (entail (length w.goal.vars) (view.Sep a (left_of_work (resting (new_goal a)))) w.goal.concl) (meaning (resting (new_goal a)) ∷ []) 3 (deepest (a ∷ left_of_work (resting (new_goal a)) ∷ w.goal.concl ∷ []) [] + 1) (length w.goal.vars) step
      → IsStep w (current [] (resting (new_goal a)) ∷ []) (view.Sep a (left_of_work (resting (without_named name w.goal)))) moved step
  step_is a moved step is m p =
      let new : Work = resting (new_goal a) in
      let ps : List Place = current [] new ∷ [] in
      let l : Formula = left_of_work (resting (without_named name w.goal)) in
      let c : Formula = view.Wand a w.goal.concl in
      let to : Formula = view.Sep a l in
      let dw : depth_of c ≡ suc (max (depth_of a) (depth_of w.goal.concl)) = depth_pair c a w.goal.concl (inr (inl refl)) in
      record {
        moves =
            subst (λ (y : Formula). Moves (length w.goal.vars) (length (work_parts w)) (left_of_work w) (view.Sep a y) moved) rest_is
            (subst (λ (y : Formula). Moves (length w.goal.vars) (length (work_parts w)) (left_of_work w) (view.Sep y (star (without (work_parts w) n))) moved) (sym is) m);
        steps = weaker Every (entail (length w.goal.vars) to w.goal.concl) (meaning new ∷ []) 3 (deepest (a ∷ l ∷ w.goal.concl ∷ []) [] + 1) (length w.goal.vars) 10 (room w ps) (width w) step (omega arith) (omega (arith, dw, concl_height new, star_height new)) (omega arith) p;
        near = omega (arith, dw, concl_height new, star_height new, depth_sep a l);
        scoped = λ preds hs. sep_scoped preds (length w.goal.vars) a l (scoped_two preds (length w.goal.vars) binary.Wand a w.goal.concl hs.0.1).0 hs.0.0;
      }

  pub reverted_ends : (new : Work) (f : Front) (step p : Tree) (r : Result (Parts Place) StepFault) → IsFront w (part_at (work_parts w) n) (star (without (work_parts w) n)) f → new ≡ resting (new_goal f.part)
      → Proves Every (entail (length new.goal.vars) (view.Sep f.part (left_of_work new)) w.goal.concl) (meaning new ∷ []) 3 (deepest (f.part ∷ left_of_work new ∷ w.goal.concl ∷ []) [] + 1) (length new.goal.vars) step
      → ChainProves f.moved step p → Ends (current [] new ∷ []) p r
      → Answers (all_nodes (work_formulas w)) w (limited (on_goal (revert name) w)) r
  reverted_ends new f step p r front is back chain ends =
      let s : ℕ = all_nodes (work_formulas w) in
      let a : Formula = f.part in
      let back1 = subst (λ (x : Work). Proves Every (entail (length x.goal.vars) (view.Sep a (left_of_work x)) w.goal.concl) (meaning x ∷ []) 3 (deepest (a ∷ left_of_work x ∷ w.goal.concl ∷ []) [] + 1) (length x.goal.vars) step) is back in
      let ends1 : Ends (current [] (resting (new_goal a)) ∷ []) p r = subst (λ (x : Work). Ends (current [] x ∷ []) p r) is ends in
      let step1 = step_is a f.moved step front.part front.moved back1 in
      outcome_is s a r front.part
      (ends1 s w (stepped s w (current [] (resting (new_goal a)) ∷ []) (view.Sep a (left_of_work (resting (without_named name w.goal)))) f.moved step p (omega arith) step1 chain))

  -- where the two proofs meet
  pub reverted_meet : (new : Work) (f : Front) (step : Tree) (c : Formula) → IsFront w (part_at (work_parts w) n) (star (without (work_parts w) n)) f → new ≡ resting (new_goal f.part)
      → conclusion step ≡ entail (length new.goal.vars) (view.Sep f.part (left_of_work new)) c → (conclusion step).left ≡ (conclusion f.moved).right
  reverted_meet new f step c front is back =
      ap (λ (e : Entail). e.left) back ∙ ap (λ (x : Work). view.Sep f.part (left_of_work x)) is ∙ ap (view.Sep f.part) (sym rest_is) ∙ ap (λ (a : Formula). view.Sep a (star (without (work_parts w) n))) front.part ∙ sym (ap (λ (e : Entail). e.right) front.moved.concludes)

  pub reverted_vars : (new : Work) (f : Front) (step : Tree) (m c : Formula) → IsFront w (part_at (work_parts w) n) (star (without (work_parts w) n)) f → new ≡ resting (new_goal f.part)
      → conclusion step ≡ entail (length new.goal.vars) m c → (conclusion step).vars ≡ (conclusion f.moved).vars
  reverted_vars new f step m c front is back = ap (λ (e : Entail). e.vars) back ∙ ap (λ (x : Work). length x.goal.vars) is ∙ sym (ap (λ (e : Entail). e.vars) front.moved.concludes)

pub revert_refused : (s : ℕ) (w : Work) (name : Named) (f : StepFault) → w.held ≡ [] → place_named name w.goal ≡ None → Refuses NoSuchHypothesis name f → Answers s w (limited (on_goal (revert name) w)) (Err f)
revert_refused s w name f nothing none h =
    let follows : Formula → Outcome = λ x. gives_goal (for (Wand x w.goal.concl) (without_named name w.goal)) in
    on_rest s w (revert name) (Err f) nothing
    (subst (λ (o : Option Formula). Answers s w (limited (require_some o NoSuchHypothesis name follows)) (Err f)) (sym (no_part name w.goal none).reverted)
    (refused_by s w NoSuchHypothesis name f h))

-- from what the new work means
pub back_done : (new : Work) (k : ℕ) (l part concl : Formula) (t : Tree) → k ≡ length new.goal.vars → l ≡ left_of_work new → new.goal.concl ≡ view.Wand part concl
    → Proves Every (entail k (view.Sep part l) concl) (entail k l (view.Wand part concl) ∷ []) 3 (deepest (part ∷ l ∷ concl ∷ []) [] + 1) k t
    → Proves Every (entail (length new.goal.vars) (view.Sep part (left_of_work new)) concl) (meaning new ∷ []) 3 (deepest (part ∷ left_of_work new ∷ concl ∷ []) [] + 1) (length new.goal.vars) t
back_done new k l part concl t vars left to p =
    let n : ℕ = length new.goal.vars in
    let m : Formula = left_of_work new in
    let p1 : Proves Every (entail n (view.Sep part l) concl) (entail n l (view.Wand part concl) ∷ []) 3 (deepest (part ∷ l ∷ concl ∷ []) [] + 1) n t =
    subst (λ (j : ℕ). Proves Every (entail j (view.Sep part l) concl) (entail j l (view.Wand part concl) ∷ []) 3 (deepest (part ∷ l ∷ concl ∷ []) [] + 1) j t) vars p in
    let p2 : Proves Every (entail n (view.Sep part m) concl) (entail n m (view.Wand part concl) ∷ []) 3 (deepest (part ∷ m ∷ concl ∷ []) [] + 1) n t =
    subst (λ (x : Formula). Proves Every (entail n (view.Sep part x) concl) (entail n x (view.Wand part concl) ∷ []) 3 (deepest (part ∷ x ∷ concl ∷ []) [] + 1) n t) left p1 in
    subst (λ (x : Formula). Proves Every (entail n (view.Sep part m) concl) (entail n m x ∷ []) 3 (deepest (part ∷ m ∷ concl ∷ []) [] + 1) n t) (sym to) p2
