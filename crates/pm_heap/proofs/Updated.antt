-- An update of a part of the star, and what follows.
use Rattle.std.proofs.Common.{◌≡◌, ℕ, zero, suc, ◌+◌, ◌*◌, ◌<◌, ◌≤◌, max, inr, List, [], ◌∷◌, ◌++◌, length, insert, refl, sym, ◌∙◌, ap, ap₂, subst, arith, Option, Some, slice_get}
use Rattle.std.specs.List.{AllByRecursion}
use Rattle.std.proofs.lemmas.List.{append-nil}
use Rattle.pm_logic.specs.declared.formula.Formula.{Formula}
use Rattle.pm_logic.specs.declared.formula.Formula.TheViews as view
use Rattle.pm_logic.specs.declared.formula.Preds.{Preds}
use Rattle.pm_logic.specs.Scope.{Scoped}
use Rattle.pm_logic.specs.Size.{depth_of}
use Rattle.pm_rules.specs.declared.rules.Entail.{Entail}
use Rattle.pm_rules.specs.declared.pattern.Unary.TheVariants as unary
use Rattle.pm_goal.specs.declared.work.Work.{Work}
use Rattle.pm_goal.specs.Left.{left_of_work}
use Rattle.pm_proof.specs.Trees.{Tree, Hole, entail, conclusion, holes_of, filled}
use Rattle.pm_proof.specs.Valid.{EntailScoped}
use Rattle.pm_proof.specs.Known.{Proves, Every, ScopedWhere, FillProves}
use Rattle.pm_proof.proofs.Fills.{weaker, fills}
use Rattle.pm_schemes.specs.Sketches.{deepest}
use Rattle.pm_schemes.proofs.Scopes.{one_scoped, scoped_one}
use Rattle.pm_star.specs.Stars.{star, work_parts, room as star_room, Moves}
use Rattle.pm_star.specs.Chains.{ChainProves}
use Rattle.pm_star.proofs.Scoping.{sep_scoped, scoped_sep, depth_sep}
use Rattle.pm_classes.proofs.Closed.{second_hole, first_left}
use Rattle.pm_table.specs.Limits.{work_formulas, greatest_depth}
use Rattle.pm_action.specs.Meanings.{meaning, height}
use Rattle.pm_action.proofs.Heights.{star_height, sides_height}
use Rattle.pm_action.proofs.Hands.{star_is}
use Rattle.pm_hand.proofs.Known.{inserted}
use Rattle.pm_heap.specs.Updates.{Runs, RunsTo, Reaches}
use Rattle.pm_heap.proofs.Members.{parts_deep}
use Rattle.pm_heap.proofs.Carried.{chained, length_inserted, all_of_star, star_low}
use Rattle.pm_heap.proofs.Merged.{others_inserted}

pub upd_scoped : (preds : Preds) (k : ℕ) (f : Formula) → Scoped preds k f → Scoped preds k (view.Upd f)
upd_scoped preds k f s = one_scoped preds 0 k unary.Upd f s

pub scoped_upd : (preds : Preds) (k : ℕ) (f : Formula) → Scoped preds k (view.Upd f) → Scoped preds k f
scoped_upd preds k f s = scoped_one preds 0 k unary.Upd f s

-- ---- the update and what follows, at the gaps

module _ (k : ℕ) (a b x q : Formula) (step first second : Tree) where
  abbrev whole : Entail
  whole = entail k (view.Sep a x) (view.Upd q)

  abbrev gap_first : Entail
  gap_first = entail k a (view.Upd b)

  abbrev gap_second : Entail
  gap_second = entail k (view.Sep b x) (view.Upd q)

  abbrev low : ℕ
  low = deepest (a ∷ b ∷ x ∷ q ∷ []) [] + 3

  abbrev IsStep : Type 0
  IsStep = Proves Every (entail k (view.Sep a x) (view.Upd q)) (entail k a (view.Upd b) ∷ entail k (view.Sep b x) (view.Upd q) ∷ []) 20 (deepest (a ∷ b ∷ x ∷ q ∷ []) [] + 3) k step

  -- what the calls that fill the gaps ask
  pub second_gap : IsStep → conclusion second ≡ entail k (view.Sep b x) (view.Upd q) → slice_get (holes_of step) 1 ≡ Some (conclusion second)
  second_gap p is = second_hole whole gap_first gap_second (gap_first ∷ gap_second ∷ []) 20 low k step p refl ∙ ap Some (sym is)

  pub first_gap : (mid : Tree) → IsStep → conclusion first ≡ entail k a (view.Upd b) → conclusion second ≡ entail k (view.Sep b x) (view.Upd q) → mid ≡ filled step 1 second → slice_get (holes_of mid) 0 ≡ Some (conclusion first)
  first_gap mid p is1 is2 made = first_left whole gap_first gap_second (gap_first ∷ gap_second ∷ []) 20 low k step second mid p refl (sym is2) made ∙ ap Some (sym is1)

  runs_at : (mid t : Tree) → IsStep → conclusion first ≡ entail k a (view.Upd b) → conclusion second ≡ entail k (view.Sep b x) (view.Upd q)
      → FillProves step 1 second mid → FillProves mid 0 first t
      → (hs : List Entail) (n m d j : ℕ) → deepest (a ∷ b ∷ x ∷ q ∷ []) [] + 3 ≤ d → k ≤ j
      → Proves Every (conclusion first) [] n d j first → Proves Every (conclusion second) hs m d j second
      → ((preds : Preds) → AllByRecursion (EntailScoped preds) hs → Scoped preds k b)
      → Proves Every (entail k (view.Sep a x) (view.Upd q)) hs (20 + n + m) d j t
  runs_at mid t p is1 is2 f g hs n m d j deep wide q1 q2 scoped =
      let two = gap_first ∷ gap_second ∷ [] in
      let p1 : Proves Every whole two 20 d j step = weaker Every whole two 20 low k 20 d j step (omega arith) deep wide p in
      let scope2 : ScopedWhere whole (gap_first ∷ (hs ++ [])) (conclusion second) =
      λ preds h rest. subst (EntailScoped preds) (sym is2) (sep_scoped preds k b x (scoped_upd preds k b rest.0.1) (scoped_sep preds k a x h.0).1, h.1) in
      let y0 : Proves Every whole (gap_first ∷ (hs ++ [])) (20 + m) d j mid = f Every whole two hs 20 m d j p1 q2 scope2 in
      let y : Proves Every whole (gap_first ∷ hs) (20 + m) d j mid = subst (λ (l : List Entail). Proves Every whole (gap_first ∷ l) (20 + m) d j mid) (append-nil hs) y0 in
      let scope1 : ScopedWhere whole hs (conclusion first) = λ preds h rest. subst (EntailScoped preds) (sym is1) ((scoped_sep preds k a x h.0).0, upd_scoped preds k b (scoped preds rest)) in
      weaker Every whole hs (20 + m + n) d j (20 + n + m) d j t (omega arith) (omega arith) (omega arith) (g Every whole (gap_first ∷ hs) [] (20 + m) n d j y q1 scope1)

  pub runs : (mid t : Tree) → IsStep → conclusion first ≡ entail k a (view.Upd b) → conclusion second ≡ entail k (view.Sep b x) (view.Upd q)
      → mid ≡ filled step 1 second → t ≡ filled mid 0 first
      → FillProves step 1 second mid → FillProves mid 0 first t → Runs k a b x q first second t
  runs mid t p is1 is2 made1 made2 f g = record {
    concludes =
        ap conclusion made2 ∙ (fills mid 0 first (first_gap mid p is1 is2 made1)).concludes
        ∙ ap conclusion made1 ∙ (fills step 1 second (second_gap p is2)).concludes ∙ p.concludes;
    proves = runs_at mid t p is1 is2 f g;
  }

-- ---- from what the new work means

hole_proves : (w : Work) → Proves Every (meaning w) (meaning w ∷ []) 0 (height w + 16) (length w.goal.vars) (Hole (meaning w))
hole_proves w = record {
  concludes = refl;
  holes = refl;
  valid = λ preds among. tt;
  scoped = λ preds e hs. e;
  size = omega arith;
  shallow = omega (arith, sides_height w);
  narrow = omega arith;
}

module _ (rest new : Work) (part : Formula) (place : ℕ) (vars : length new.goal.vars ≡ length rest.goal.vars) (more : work_parts new ≡ insert (work_parts rest) place part) where
  abbrev G : ℕ
  G = suc (greatest_depth (work_formulas new))

  abbrev P : Formula → Type 0
  P f = depth_of f ≤ suc (greatest_depth (work_formulas new))

  all_new : AllByRecursion P (insert (work_parts rest) place part)
  all_new = subst (AllByRecursion P) more (parts_deep new)

  pub part_low : depth_of part ≤ suc (greatest_depth (work_formulas new))
  part_low = inserted P (work_parts rest) place part all_new

  pub rest_count : suc (length (work_parts rest)) ≡ length (work_parts new)
  rest_count = sym (ap length more ∙ length_inserted (work_parts rest) place part)

  pub rest_low : depth_of (left_of_work rest) ≤ height new + 1
  rest_low = star_low new rest (others_inserted P (work_parts rest) place part all_new) (omega (arith, rest_count))

  -- what stands in the new star is scoped where that is
  pub part_scoped : (preds : Preds) (k : ℕ) → Scoped preds k (left_of_work new) → Scoped preds k part
  part_scoped preds k s = inserted (Scoped preds k) (work_parts rest) place part (subst (AllByRecursion (Scoped preds k)) more (all_of_star preds k new s))

  pub reach_meets : (x y : Tree) → Moves (length rest.goal.vars) (length (work_parts rest)) (view.Sep part (left_of_work rest)) (star (insert (work_parts rest) place part)) x → y ≡ Hole (meaning new)
      → (conclusion y).left ≡ (conclusion x).right
  reach_meets x y m hole = ap (λ t. (conclusion t).left) hole ∙ sym (ap (λ (e : Entail). e.right) m.concludes ∙ star_is new (insert (work_parts rest) place part) more)

  pub reach_alike : (x y : Tree) → Moves (length rest.goal.vars) (length (work_parts rest)) (view.Sep part (left_of_work rest)) (star (insert (work_parts rest) place part)) x → y ≡ Hole (meaning new)
      → (conclusion y).vars ≡ (conclusion x).vars
  reach_alike x y m hole = ap (λ t. (conclusion t).vars) hole ∙ vars ∙ sym (ap (λ (e : Entail). e.vars) m.concludes)

  pub reaches : (x y t : Tree)
      → Moves (length rest.goal.vars) (length (work_parts rest)) (view.Sep part (left_of_work rest)) (star (insert (work_parts rest) place part)) x
      → y ≡ Hole (meaning new) → ChainProves x y t → Reaches rest part new t
  reaches x y t m hole chain =
      let k = length rest.goal.vars in
      let l = view.Sep part (left_of_work rest) in
      let n = 100 * (length (work_parts rest) + 1) in
      let d = height new + 16 in
      let end : star (insert (work_parts rest) place part) ≡ left_of_work new = star_is new (insert (work_parts rest) place part) more in
      let m0 : Moves k (length (work_parts rest)) l (left_of_work new) x = subst (λ r. Moves k (length (work_parts rest)) l r x) end m in
      let m1 : Proves Every (entail k l (left_of_work new)) [] n d k x =
      weaker Every (entail k l (left_of_work new)) [] n (star_room l (left_of_work new)) k n d k x (omega arith) (omega (arith, depth_sep part (left_of_work rest), part_low, rest_low, star_height new)) (omega arith) m0 in
      let h0 : Proves Every (entail (length new.goal.vars) (left_of_work new) new.goal.concl) (meaning new ∷ []) 0 d (length new.goal.vars) y =
      subst (λ z. Proves Every (meaning new) (meaning new ∷ []) 0 d (length new.goal.vars) z) (sym hole) (hole_proves new) in
      let h1 : Proves Every (entail k (left_of_work new) new.goal.concl) (meaning new ∷ []) 0 d k y =
      subst (λ j. Proves Every (entail j (left_of_work new) new.goal.concl) (meaning new ∷ []) 0 d j y) vars h0 in
      chained k n 0 (n + 1) d k l (left_of_work new) new.goal.concl (meaning new ∷ []) x y t m1 h1 chain
      (λ preds s r hs. subst (λ j. Scoped preds j (left_of_work new)) vars hs.0.0) (omega arith)

  -- ---- an update, and then that

  pub runs_to : (k : ℕ) (a q st : Formula) (update follows t : Tree) → k ≡ length rest.goal.vars → st ≡ left_of_work rest → new.goal.concl ≡ view.Upd q
      → Reaches rest part new follows → Runs k a part st q update follows t → RunsTo rest a part q update new t
  runs_to k a q st update follows t v is concl reach run =
      let k1 = length rest.goal.vars in
      let m = 100 * (length (work_parts rest) + 1) + 1 in
      let e = entail k1 (view.Sep part (left_of_work rest)) new.goal.concl in
      let run1 : Runs k1 a part (left_of_work rest) q update follows t = subst (λ y. Runs k1 a part y q update follows t) is (subst (λ i. Runs i a part st q update follows t) v run) in
      record {
        concludes = run1.concludes;
        proves = λ n d j deep tall wide u.
            let f1 : Proves Every e (meaning new ∷ []) m d j follows = weaker Every e (meaning new ∷ []) m (height new + 16) k1 m d j follows (omega arith) tall wide reach in
            let f2 : Proves Every (conclusion follows) (meaning new ∷ []) m d j follows = subst (λ z. Proves Every z (meaning new ∷ []) m d j follows) (sym f1.concludes) f1 in
            run1.proves (meaning new ∷ []) n m d j deep wide u f2 (λ preds hs. part_scoped preds k1 (subst (λ i. Scoped preds i (left_of_work new)) vars hs.0.0));
      }
