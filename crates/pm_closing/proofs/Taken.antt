-- Proofs of what a part of the star gives.
use Rattle.std.proofs.Common.{◌≡◌, ℕ, zero, suc, ◌+◌, ◌*◌, ◌<◌, ◌≤◌, max, List, [], ◌∷◌, length, refl, sym, ◌∙◌, ap, subst, arith}
use Rattle.pm_logic.specs.declared.formula.Formula.{Formula}
use Rattle.pm_logic.specs.declared.formula.Formula.TheViews as view
use Rattle.pm_logic.specs.declared.formula.Preds.{Preds}
use Rattle.pm_logic.specs.Scope.{Scoped}
use Rattle.pm_logic.specs.Size.{depth_of}
use Rattle.pm_goal.specs.declared.work.Work.{Work}
use Rattle.pm_goal.specs.Left.{star_onto, left_of_work}
use Rattle.pm_rules.specs.declared.rules.Entail.{Entail}
use Rattle.pm_rules.specs.declared.pattern.Binary.TheVariants as binary
use Rattle.pm_rules.proofs.Matched.{two_same}
use Rattle.pm_proof.specs.Trees.{Tree, entail, conclusion}
use Rattle.pm_proof.specs.Known.{Proves, Extends, Every, ScopedWhere, FillExtends}
use Rattle.pm_proof.proofs.Fills.{weaker, extends_weaker, extends_proves}
use Rattle.pm_schemes.specs.Sketches.{deepest}
use Rattle.pm_star.specs.Stars.{star, work_parts, part_at, without, in_front, room as star_room, Moves}
use Rattle.pm_star.specs.Chains.{ChainProves, across}
use Rattle.pm_star.proofs.Contexts.{work_star}
use Rattle.pm_star.proofs.Scoping.{front_scoped, part_scoped, scoped_star, depth_sep, part_deep}
use Rattle.pm_table.specs.Limits.{work_formulas, all_nodes}
use Rattle.pm_table.specs.Running.{rules_within}
use Rattle.pm_action.specs.Meanings.{meaning, height, room, width}
use Rattle.pm_action.specs.Acting.{IsActed}
use Rattle.pm_action.proofs.Heights.{star_height, concl_height, parts_nodes}
use Rattle.pm_action.proofs.Moves.{few}
use Rattle.pm_closing.specs.Ways.{IsPart, IsFirst, GivesPart, GivesConclusion, part_for}
use Rattle.pm_closing.specs.declared.way.Found.{Found}
use Rattle.pm_closing.proofs.Places.{work_within, work_part}

-- ---- the first part of a star

pub first_done : (by step t : Tree) (e : Entail) (v : ℕ) (l a y : Formula) → conclusion by ≡ e → v ≡ e.vars → l ≡ e.left → e.right ≡ view.Sep a y
    → Proves Every (entail v l a) (entail v l (view.Sep a y) ∷ []) 2 (deepest (l ∷ a ∷ y ∷ []) [] + 1) v step → FillExtends step 0 by t → IsFirst by t
first_done by step t e v l a y is vars left right p fills k x1 a1 y1 at =
    let same : e ≡ entail k x1 (view.Sep a1 y1) = sym is ∙ at in
    let v_is : v ≡ k = vars ∙ ap (λ (z : Entail). z.vars) same in
    let l_is : l ≡ x1 = left ∙ ap (λ (z : Entail). z.left) same in
    let sides : view.Sep a y ≡ view.Sep a1 y1 = sym right ∙ ap (λ (z : Entail). z.right) same in
    let parts = two_same binary.Sep a y a1 y1 sides in
    let hole : entail v l (view.Sep a y) ≡ conclusion by = ap (λ (n : ℕ). entail n l (view.Sep a y)) v_is ∙ ap (λ (z : Formula). entail k z (view.Sep a y)) l_is ∙ ap (entail k x1) sides ∙ sym at in
    let q : Extends by (entail v l a) 2 (deepest (l ∷ a ∷ y ∷ []) [] + 1) v t = fills (entail v l a) 2 (deepest (l ∷ a ∷ y ∷ []) [] + 1) v (subst (λ (h : Entail). Proves Every (entail v l a) (h ∷ []) 2 (deepest (l ∷ a ∷ y ∷ []) [] + 1) v step) hole p) in
    extends_weaker by t (entail k x1 a1) 2 (deepest (x1 ∷ a1 ∷ y1 ∷ []) [] + 1) k 2 (max (depth_of x1) (max (depth_of a1) (depth_of y1)) + 8) k (omega arith) (omega arith) (omega arith)
    (subst (λ (z : Formula). Extends by (entail k x1 a1) 2 (deepest (x1 ∷ a1 ∷ z ∷ []) [] + 1) k t) parts.1
    (subst (λ (z : Formula). Extends by (entail k x1 z) 2 (deepest (x1 ∷ z ∷ y ∷ []) [] + 1) k t) parts.0
    (subst (λ (z : Formula). Extends by (entail k z a) 2 (deepest (z ∷ a ∷ y ∷ []) [] + 1) k t) l_is
    (subst (λ (n : ℕ). Extends by (entail n l a) 2 (deepest (l ∷ a ∷ y ∷ []) [] + 1) n t) v_is q))))

-- ---- a part in front

in_front_is : (fs : List Formula) (i : ℕ) → star (in_front fs i) ≡ view.Sep (part_at fs i) (star (without fs i))
unfolding star_onto
in_front_is fs i = refl

without_depth : (fs : List Formula) (i : ℕ) → depth_of (star (without fs i)) ≤ depth_of (star fs)
unfolding star_onto
without_depth [] zero = omega arith
without_depth [] (suc i) = omega arith
without_depth (f ∷ fs) zero = omega (arith, depth_sep f (star fs))
without_depth (f ∷ fs) (suc i) = omega (arith, without_depth fs i, depth_sep f (star fs), depth_sep f (star (without fs i)))

module _ (w : Work) (n : ℕ) (lt : n < length (work_parts w)) where
  abbrev fs : List Formula
  fs = work_parts w

  abbrev rest : Formula
  rest = star (without fs n)

  star_deep : depth_of (star fs) ≤ height w + 1
  star_deep = subst (λ (f : Formula). depth_of f ≤ height w + 1) (sym (work_star w)) (star_height w)

  rest_deep : depth_of rest ≤ height w + 1
  rest_deep = omega (arith, without_depth fs n, star_deep)

  pub part_depth : depth_of (part_at fs n) ≤ height w + 1
  part_depth = omega (arith, part_deep fs n lt, star_deep)

  pub part_is_scoped : (preds : Preds) (k : ℕ) → Scoped preds k (left_of_work w) → Scoped preds k (part_at fs n)
  part_is_scoped preds k s = part_scoped preds k fs n (scoped_star preds k fs (subst (Scoped preds k) (sym (work_star w)) s))

  front_is_scoped : (preds : Preds) (k : ℕ) → Scoped preds k (left_of_work w) → Scoped preds k (view.Sep (part_at fs n) rest)
  front_is_scoped preds k s = subst (Scoped preds k) (in_front_is fs n) (front_scoped preds k fs n (subst (Scoped preds k) (sym (work_star w)) s))

  front_concludes : (by : Tree) → Moves (length w.goal.vars) (length fs) (left_of_work w) (star (in_front fs n)) by → conclusion by ≡ entail (length w.goal.vars) (left_of_work w) (view.Sep (part_at fs n) rest)
  front_concludes by p = p.concludes ∙ ap (entail (length w.goal.vars) (left_of_work w)) (in_front_is fs n)

  -- it ends in a star
  pub front_first : (by : Tree) → Moves (length w.goal.vars) (length fs) (left_of_work w) (star (in_front fs n)) by → (x : Formula) × (a : Formula) × (y : Formula) × (conclusion by ≡ entail (conclusion by).vars x (view.Sep a y))
  front_first by p =
      let e = front_concludes by p in
      (left_of_work w, part_at fs n, rest, e ∙ ap (λ m. entail m (left_of_work w) (view.Sep (part_at fs n) rest)) (sym (ap (λ (z : Entail). z.vars) e)))

  pub part_given : (by t : Tree) → Moves (length w.goal.vars) (length fs) (left_of_work w) (star (in_front fs n)) by → IsFirst by t → GivesPart w n t
  part_given by t p first =
      let k : ℕ = length w.goal.vars in
      let l : Formula = left_of_work w in
      let a : Formula = part_at fs n in
      let e : Entail = entail k l (view.Sep a rest) in
      let m : ℕ = 100 * (length fs + 1) in
      let by1 : Proves Every e [] m (star_room l (view.Sep a rest)) k by = subst (λ (f : Formula). Proves Every (entail k l f) [] m (star_room l f) k by) (in_front_is fs n) p in
      let by2 : Proves Every e [] m (room w []) (width w) by = weaker Every e [] m (star_room l (view.Sep a rest)) k m (room w []) (width w) by (omega arith) (omega (arith, depth_sep a rest, rest_deep, part_depth, star_height w)) (omega arith) by1 in
      let by3 : Extends by (entail k l a) 2 (room w []) (width w) t = extends_weaker by t (entail k l a) 2 (max (depth_of l) (max (depth_of a) (depth_of rest)) + 8) k 2 (room w []) (width w) (omega arith) (omega (arith, rest_deep, part_depth, star_height w)) (omega arith) (first k l a rest (front_concludes by p)) in
      let by4 : Proves Every (conclusion by) [] m (room w []) (width w) by = subst (λ x. Proves Every x [] m (room w []) (width w) by) (sym (front_concludes by p)) by2 in
      let wants : ScopedWhere (entail k l a) [] (conclusion by) = λ preds u all. rw (front_concludes by p) (u.0, front_is_scoped preds k u.0) in
      extends_proves Every by t (conclusion by) (entail k l a) [] m 2 (room w []) (width w) by4 by3 wants

-- ---- and what it gives

pub found_within : (w : Work) (found : Found) → IsPart w.goal (part_for found.way w.goal.concl) found.place → found.place < length (work_parts w)
found_within w found p = work_within w (part_for found.way w.goal.concl) found.place p

pub found_meets : (w : Work) (found : Found) (a b : Tree) → IsPart w.goal (part_for found.way w.goal.concl) found.place → GivesPart w found.place a → GivesConclusion (length w.goal.vars) found.way w.goal.concl b → (conclusion b).left ≡ (conclusion a).right
found_meets w found a b p given concl = ap (λ (e : Entail). e.left) concl.concludes ∙ (sym (work_part w (part_for found.way w.goal.concl) found.place p) ∙ sym (ap (λ (e : Entail). e.right) given.concludes))

pub found_acted : (w : Work) (found : Found) (a b t : Tree) → IsPart w.goal (part_for found.way w.goal.concl) found.place → GivesPart w found.place a → GivesConclusion (length w.goal.vars) found.way w.goal.concl b → ChainProves a b t → IsActed (all_nodes (work_formulas w)) w [] t
found_acted w found a b t p given concl chain =
    let k : ℕ = length w.goal.vars in
    let s : ℕ = all_nodes (work_formulas w) in
    let n : ℕ = 100 * (length (work_parts w) + 1) + 2 in
    let d : ℕ = room w [] in
    let lt = work_within w (part_for found.way w.goal.concl) found.place p in
    let step : Entail = entail k (part_for found.way w.goal.concl) w.goal.concl in
    let a1 : Proves Every (conclusion a) [] n d (width w) a = subst (λ x. Proves Every x [] n d (width w) a) (sym given.concludes) given in
    let b1 : Proves Every step [] 3 d (width w) b = weaker Every step [] 3 (depth_of w.goal.concl + 5) k 3 d (width w) b (omega arith) (omega (arith, concl_height w)) (omega arith) concl in
    let b2 : Proves Every (conclusion b) [] 3 d (width w) b = subst (λ x. Proves Every x [] 3 d (width w) b) (sym concl.concludes) b1 in
    let over : across a b ≡ meaning w = ap (λ (e : Entail). entail e.vars e.left (conclusion b).right) given.concludes ∙ ap (λ (e : Entail). entail k (left_of_work w) e.right) concl.concludes in
    let wants : ScopedWhere (across a b) [] (conclusion a) = λ preds u all. rw given.concludes (scope preds lt (subst (λ (e : Entail). Scoped preds e.vars e.left) over u.0)) in
    let all : Proves Every (across a b) [] (n + 3 + 1) d (width w) t = chain Every [] [] n 3 d (width w) a1 b2 wants in
    let all1 : Proves Every (meaning w) [] (n + 3 + 1) d (width w) t = subst (λ x. Proves Every x [] (n + 3 + 1) d (width w) t) over all in
    weaker Every (meaning w) [] (n + 3 + 1) d (width w) (rules_within s) d (width w) t (few s (n + 3 + 1) (omega (arith, parts_nodes w))) (omega arith) (omega arith) all1
  where
    scope : (preds : Preds) → found.place < length (work_parts w) → Scoped preds (length w.goal.vars) (left_of_work w) → Scoped preds (length w.goal.vars) (left_of_work w) × Scoped preds (length w.goal.vars) (part_at (work_parts w) found.place)
    scope preds lt u = (u, part_is_scoped w found.place lt preds (length w.goal.vars) u)

pub found_counted : (w : Work) (found : Found) (n : ℕ) (b : Tree) → n ≡ length w.goal.vars → GivesConclusion n found.way w.goal.concl b → GivesConclusion (length w.goal.vars) found.way w.goal.concl b
found_counted w found n b is concl = subst (λ (k : ℕ). GivesConclusion k found.way w.goal.concl b) is concl

pub found_vars : (w : Work) (found : Found) (a b : Tree) → GivesPart w found.place a → GivesConclusion (length w.goal.vars) found.way w.goal.concl b → (conclusion b).vars ≡ (conclusion a).vars
found_vars w found a b given concl = ap (λ (e : Entail). e.vars) concl.concludes ∙ sym (ap (λ (e : Entail). e.vars) given.concludes)
