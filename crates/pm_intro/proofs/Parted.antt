-- What stands in place of what is last in hand.
use Rattle.std.proofs.Common.{◌≡◌, ℕ, ◌+◌, ◌*◌, ◌≤◌, max, List, [], ◌∷◌, ◌++◌, length, length-append, refl, sym, ◌∙◌, ap, ap₂, subst, arith}
use Rattle.std.specs.Prelude.{set}
use Rattle.std.specs.List.{AllByRecursion}
use Rattle.std.proofs.lemmas.List.{map-append, length-map, append_assoc}
use Rattle.pm_logic.specs.declared.formula.Formula.{Formula}
use Rattle.pm_logic.specs.declared.formula.Formula.TheViews as view
use Rattle.pm_logic.specs.declared.formula.Preds.{Preds}
use Rattle.pm_logic.specs.Scope.{Scoped}
use Rattle.pm_logic.specs.Size.{depth_of, nodes_of}
use Rattle.pm_goal.specs.declared.work.Kind.{Kind}
use Rattle.pm_goal.specs.declared.work.Kind.TheVariants.{Spat}
use Rattle.pm_goal.specs.declared.work.Held.{Held}
use Rattle.pm_goal.specs.declared.work.Work.{Work}
use Rattle.pm_goal.specs.Left.{of_kind, held_parts, left_of_work}
use Rattle.pm_rules.specs.declared.rules.Entail.{Entail}
use Rattle.pm_proof.specs.Trees.{Tree, entail, conclusion}
use Rattle.pm_proof.specs.Valid.{EntailScoped}
use Rattle.pm_proof.specs.Known.{Proves, Extends, Every, ScopedWhere}
use Rattle.pm_proof.proofs.Fills.{weaker, extends_weaker, extends_proves}
use Rattle.pm_schemes.specs.Sketches.{deepest}
use Rattle.pm_star.specs.Stars.{star, parts, work_parts, part_at, room as star_room, MovesBy}
use Rattle.pm_star.specs.Chains.{paired}
use Rattle.pm_star.specs.Levels.{right_side}
use Rattle.pm_star.proofs.Contexts.{work_star}
use Rattle.pm_star.proofs.Scoping.{scoped_star, sep_scoped, depth_sep}
use Rattle.pm_classes.specs.declared.entry.Pair.{Pair}
use Rattle.pm_classes.proofs.Sizes.{depth_and}
use Rattle.pm_table.specs.Limits.{all_nodes, work_formulas}
use Rattle.pm_table.specs.Works.{holding}
use Rattle.pm_action.specs.Meanings.{height, width}
use Rattle.pm_action.specs.Acting.{IsLast, all_but_last, last_place}
use Rattle.pm_action.proofs.Heights.{star_height, parts_nodes}
use Rattle.pm_action.proofs.Hands.{held_is, part_last}
use Rattle.pm_intro.specs.Closing.{Closes}
use Rattle.pm_intro.specs.Hands.{kept, HasParts}
use Rattle.pm_intro.specs.Pairs.{Becomes}
use Rattle.pm_intro.proofs.Handed.{all_parts}
use Rattle.pm_intro.proofs.InFront.{part_fits}
use Rattle.pm_intro.proofs.ByKind.{right_deep}

pair_end : (fs : List Formula) (x p q : Formula) → paired (fs ++ x ∷ []) (length fs) p q ≡ fs ++ p ∷ q ∷ []
pair_end [] x p q = refl
pair_end (f ∷ fs) x p q = ap (λ l. f ∷ l) (pair_end fs x p q)

set_end : (fs : List Formula) (x p : Formula) → set (fs ++ x ∷ []) (length fs) p ≡ fs ++ p ∷ []
set_end [] x p = refl
set_end (f ∷ fs) x p = ap (λ l. f ∷ l) (set_end fs x p)

module _ (w : Work) (l : Held) (last : IsLast w l) where
  abbrev pub before : List Formula
  before = parts w.goal ++ held_parts (all_but_last w.held)

  place : length before ≡ last_place w
  place = omega (arith, length-append (parts w.goal) (held_parts (all_but_last w.held)), length-map (all_but_last w.held) (λ (h : Held). of_kind h.kind h.formula))

  pub kept_parts : (new : List Held) → work_parts (kept w new) ≡ before ++ held_parts new
  kept_parts new = ap (λ hs. parts w.goal ++ hs) (map-append (λ (h : Held). of_kind h.kind h.formula) (all_but_last w.held) new) ∙ sym (append_assoc (parts w.goal) (held_parts (all_but_last w.held)) (held_parts new))

  pub whole : work_parts w ≡ before ++ of_kind l.kind l.formula ∷ []
  whole = ap (λ hs. parts w.goal ++ held_parts hs) (held_is w l last) ∙ kept_parts (l ∷ [])

  pub two_star : (z : Kind) (f g p q : Formula) → p ≡ of_kind z f → q ≡ of_kind z g → star (paired (work_parts w) (last_place w) p q) ≡ left_of_work (kept w (holding z f ∷ holding z g ∷ []))
  two_star z f g p q p_is q_is =
      ap (λ fs. star (paired fs (last_place w) p q)) whole
      ∙ ap (λ n. star (paired (before ++ of_kind l.kind l.formula ∷ []) n p q)) (sym place)
      ∙ ap star (pair_end before (of_kind l.kind l.formula) p q)
      ∙ ap₂ (λ x y. star (before ++ x ∷ y ∷ [])) p_is q_is
      ∙ ap star (sym (kept_parts (holding z f ∷ holding z g ∷ [])))
      ∙ work_star (kept w (holding z f ∷ holding z g ∷ []))

  pub one_star : (z : Kind) (f p : Formula) → p ≡ of_kind z f → star (set (work_parts w) (last_place w) p) ≡ left_of_work (kept w (holding z f ∷ []))
  one_star z f p p_is =
      ap (λ fs. star (set fs (last_place w) p)) whole
      ∙ ap (λ n. star (set (before ++ of_kind l.kind l.formula ∷ []) n p)) (sym place)
      ∙ ap star (set_end before (of_kind l.kind l.formula) p)
      ∙ ap (λ x. star (before ++ x ∷ [])) p_is
      ∙ ap star (sym (kept_parts (holding z f ∷ [])))
      ∙ work_star (kept w (holding z f ∷ []))

  -- ---- where the stars are scoped

  new_scoped : (preds : Preds) (k : ℕ) (new : List Held) → Scoped preds k (left_of_work (kept w new)) → AllByRecursion (Scoped preds k) (held_parts new)
  new_scoped preds k new s = (all_parts (Scoped preds k) before (held_parts new) (subst (AllByRecursion (Scoped preds k)) (kept_parts new) (scoped_star preds k (work_parts (kept w new)) (subst (Scoped preds k) (sym (work_star (kept w new))) s)))).1

  old_scoped : (preds : Preds) (k : ℕ) → Scoped preds k (left_of_work w) → Scoped preds k (of_kind l.kind l.formula)
  old_scoped preds k s = (all_parts (Scoped preds k) before (of_kind l.kind l.formula ∷ []) (subst (AllByRecursion (Scoped preds k)) whole (scoped_star preds k (work_parts w) (subst (Scoped preds k) (sym (work_star w)) s)))).1.0

  -- ---- from a proof about the part to one about the star

  becomes : (new : List Held) (n : ℕ) (c to : Formula) (by t : Tree) → n ≤ 200 * all_nodes (work_formulas w) + 202 → to ≡ left_of_work (kept w new)
      → conclusion by ≡ entail (length w.goal.vars) (of_kind l.kind l.formula) c
      → Proves Every (conclusion by) [] n (height w + 12) (width w) by
      → ((preds : Preds) → AllByRecursion (Scoped preds (length w.goal.vars)) (held_parts new) → Scoped preds (length w.goal.vars) c)
      → MovesBy by (length w.goal.vars) (length (work_parts w)) (left_of_work w) to t → Becomes w (kept w new) t
  becomes new n c to by t few is concl p scoped m =
      let k = length w.goal.vars in
      let L = left_of_work w in
      let L1 = left_of_work (kept w new) in
      let d = max (height w) (height (kept w new)) + 16 in
      let c1 = 100 * (length (work_parts w) + 1) in
      let e = entail k L L1 in
      let m1 : Extends by e c1 (star_room L L1) k t = subst (λ r. Extends by (entail k L r) c1 (star_room L r) k t) is m in
      let near : star_room L L1 ≤ d = omega (arith, star_height w, star_height (kept w new)) in
      let m2 : Extends by e c1 d (width w) t = extends_weaker by t e c1 (star_room L L1) k c1 d (width w) (omega arith) near (omega arith) m1 in
      let p1 : Proves Every (conclusion by) [] n d (width w) by = weaker Every (conclusion by) [] n (height w + 12) (width w) n d (width w) by (omega arith) (omega arith) (omega arith) p in
      let scope : ScopedWhere e [] (conclusion by) = λ preds h none. subst (EntailScoped preds) (sym concl) (old_scoped preds k h.0, scoped preds (new_scoped preds k new h.1)) in
      weaker Every e [] (n + c1) d (width w) (300 * all_nodes (work_formulas w) + 202) d (width w) t (omega (arith, few, parts_nodes w)) (omega arith) (omega arith)
      (extends_proves Every by t (conclusion by) e [] n c1 d (width w) p1 m2 scope)

  pub part_says : (z : Kind) (by : Tree) (r whole_is : Formula) → whole_is ≡ of_kind l.kind l.formula → conclusion by ≡ entail (length w.goal.vars) whole_is r → conclusion by ≡ entail (length w.goal.vars) (part_at (work_parts w) (last_place w)) r
  part_says z by r x is e = e ∙ ap (λ y. entail (length w.goal.vars) y r) (is ∙ sym (part_last w l last))

  pub both_become : (r : Pair) (wh f1 f2 : Formula) (by t : Tree) → wh ≡ of_kind l.kind l.formula → f1 ≡ of_kind l.kind r.first → f2 ≡ of_kind l.kind r.second
      → HasParts l.kind (length w.goal.vars) l.formula r
      → Closes r.proof (entail (length w.goal.vars) wh (view.Sep f2 f1)) 2 (deepest (wh ∷ f1 ∷ f2 ∷ []) [] + 1) (length w.goal.vars) by
      → MovesBy by (length w.goal.vars) (length (work_parts w)) (left_of_work w) (star (paired (work_parts w) (last_place w) f2 f1)) t
      → Becomes w (kept w (holding l.kind r.second ∷ holding l.kind r.first ∷ [])) t
  both_become r wh f1 f2 by t wh_is f1_is f2_is p closes m =
      let k = length w.goal.vars in
      let z = l.kind in
      let f = of_kind l.kind l.formula in
      let c0 = view.Sep (of_kind z r.first) (of_kind z r.second) in
      let e0 = entail k f c0 in
      let n = 200 * nodes_of f in
      let d = height w + 12 in
      let fits = part_fits w l last in
      let deep0 : depth_of c0 ≤ depth_of f + 8 = right_deep k n (depth_of f + 8) (k + depth_of f) f c0 r.proof p in
      let deep1 : depth_of wh ≤ height w = rw wh_is fits.0 in
      let deep2 : depth_of f1 ≤ height w + 8 = rw f1_is (omega (arith, deep0, fits.0, depth_sep (of_kind z r.first) (of_kind z r.second))) in
      let deep3 : depth_of f2 ≤ height w + 8 = rw f2_is (omega (arith, deep0, fits.0, depth_sep (of_kind z r.first) (of_kind z r.second))) in
      let p1 : Proves Every (conclusion r.proof) [] n d (width w) r.proof = subst (λ x. Proves Every x [] n d (width w) r.proof) (sym p.concludes) (weaker Every e0 [] n (depth_of f + 8) (k + depth_of f) n d (width w) r.proof (omega arith) (omega (arith, fits.0)) fits.1 p) in
      let q : Proves Every (entail k wh (view.Sep f2 f1)) [] (2 + n) d (width w) by = closes [] n d (width w) (omega (arith, deep1, deep2, deep3)) (omega arith) p1 in
      let q1 : Proves Every (conclusion by) [] (2 + n) d (width w) by = subst (λ x. Proves Every x [] (2 + n) d (width w) by) (sym q.concludes) q in
      becomes (holding z r.second ∷ holding z r.first ∷ []) (2 + n) (view.Sep f2 f1) (star (paired (work_parts w) (last_place w) f2 f1)) by t (omega (arith, fits.2))
      (two_star z r.second r.first f2 f1 f2_is f1_is) (q.concludes ∙ ap (λ x. entail k x (view.Sep f2 f1)) wh_is) q1
      (λ preds a. sep_scoped preds k f2 f1 (subst (Scoped preds k) (sym f2_is) a.0) (subst (Scoped preds k) (sym f1_is) a.1.0)) m

  pub one_becomes : (a b c : Formula) (by t : Tree) → l ≡ holding Spat (view.And a b)
      → depth_of c ≤ depth_of (view.And a b)
      → Proves Every (entail (length w.goal.vars) (view.And a b) c) [] 1 (deepest (a ∷ b ∷ []) [] + 1) (length w.goal.vars) by
      → MovesBy by (length w.goal.vars) (length (work_parts w)) (left_of_work w) (star (set (work_parts w) (last_place w) (right_side by))) t
      → Becomes w (kept w (holding Spat c ∷ [])) t
  one_becomes a b c by t is no_deeper p m =
      let k = length w.goal.vars in
      let fits = part_fits w l last in
      let f_is : of_kind l.kind l.formula ≡ view.And a b = ap (λ (h : Held). of_kind h.kind h.formula) is in
      let deep : depth_of (view.And a b) ≤ height w = subst (λ (y : Formula). depth_of y ≤ height w) f_is fits.0 in
      let d = height w + 12 in
      let p1 : Proves Every (conclusion by) [] 1 d (width w) by = subst (λ x. Proves Every x [] 1 d (width w) by) (sym p.concludes) (weaker Every (entail k (view.And a b) c) [] 1 (deepest (a ∷ b ∷ []) [] + 1) k 1 d (width w) by (omega arith) (omega (arith, deep, depth_and a b)) (omega arith) p) in
      becomes (holding Spat c ∷ []) 1 c (star (set (work_parts w) (last_place w) (right_side by))) by t (omega arith)
      (one_star Spat c (right_side by) (ap (λ (e : Entail). e.right) p.concludes)) (p.concludes ∙ ap (λ x. entail k x c) (sym f_is)) p1
      (λ preds a. a.0) m
