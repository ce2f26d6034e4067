-- What is last in hand in front of the star.
use Rattle.std.proofs.Common.{◌≡◌, ℕ, zero, suc, ◌+◌, ◌*◌, ◌≤◌, List, [], ◌∷◌, length, refl, sym, ◌∙◌, ap, ap₂, subst, arith}
use Rattle.std.specs.Prelude.{insert}
use Rattle.std.specs.List.{AllByRecursion}
use Rattle.pm_logic.specs.declared.formula.Formula.{Formula}
use Rattle.pm_logic.specs.declared.formula.Formula.TheViews as view
use Rattle.pm_logic.specs.declared.formula.Preds.{Preds}
use Rattle.pm_logic.specs.Scope.{Scoped}
use Rattle.pm_logic.specs.Size.{depth_of, nodes_of}
use Rattle.pm_goal.specs.declared.work.Kind.{Kind}
use Rattle.pm_goal.specs.declared.work.Kind.TheVariants.{Int, Spat}
use Rattle.pm_goal.specs.declared.work.Held.{Held}
use Rattle.pm_goal.specs.declared.work.Work.{Work}
use Rattle.pm_goal.specs.Left.{of_kind, star_onto, left_of_work}
use Rattle.pm_rules.specs.declared.rules.Entail.{Entail}
use Rattle.pm_proof.specs.Trees.{Tree, entail, conclusion}
use Rattle.pm_proof.specs.Valid.{EntailScoped}
use Rattle.pm_proof.specs.Known.{Proves, Every, ScopedWhere}
use Rattle.pm_proof.proofs.Fills.{weaker}
use Rattle.pm_schemes.specs.Sketches.{deepest}
use Rattle.pm_star.specs.Stars.{star, work_parts, in_front, room as star_room, Moves}
use Rattle.pm_star.specs.Levels.{left_side, right_side}
use Rattle.pm_star.specs.Chains.{ChainProves, across}
use Rattle.pm_star.proofs.Contexts.{work_star}
use Rattle.pm_star.proofs.Scoping.{front_scoped, scoped_star, star_scoped, depth_sep}
use Rattle.pm_classes.specs.Entries.{HasProof}
use Rattle.pm_classes.proofs.Sizes.{depth_pers, nodes_pers}
use Rattle.pm_table.specs.Limits.{all_nodes, work_formulas}
use Rattle.pm_action.specs.Meanings.{height, width}
use Rattle.pm_action.specs.Acting.{IsLast, last_place}
use Rattle.pm_action.proofs.Heights.{star_height, parts_nodes}
use Rattle.pm_action.proofs.Hands.{without_last, part_last}
use Rattle.pm_intro.specs.Closing.{Closes}
use Rattle.pm_intro.specs.Ending.{HasMore}
use Rattle.pm_intro.specs.Hands.{rest}
use Rattle.pm_intro.specs.Fronts.{IsBeside, IsFront}
use Rattle.pm_intro.proofs.Handed.{last_nodes, last_depth, last_count, rest_height}
use Rattle.pm_intro.proofs.Entering.{more_star}
use Rattle.pm_intro.proofs.ByKind.{right_deep}

pub kind_deep : (z : Kind) (f : Formula) → depth_of (of_kind z f) ≤ suc (depth_of f)
kind_deep Int f = omega (arith, depth_pers f)
kind_deep Spat f = omega arith

pub kind_nodes : (z : Kind) (f : Formula) → nodes_of (of_kind z f) ≤ suc (nodes_of f)
kind_nodes Int f = omega (arith, nodes_pers f)
kind_nodes Spat f = omega arith

-- ---- a star with one part more is scoped where both are

insert_all : (P : Formula → Type 0) (fs : List Formula) (n : ℕ) (a : Formula) → AllByRecursion P (insert fs n a) → P a × AllByRecursion P fs
insert_all P fs zero a all = (all.0, all.1)
insert_all P [] (suc n) a all = (all.0, tt)
insert_all P (f ∷ fs) (suc n) a all = let r = insert_all P fs n a all.1 in (r.0, (all.0, r.1))

pub more_scoped : (preds : Preds) (k : ℕ) (old new : Work) (a : Formula) → HasMore old a new → Scoped preds k (left_of_work new) → Scoped preds k a × Scoped preds k (left_of_work old)
more_scoped preds k old new a more s =
    let fs = work_parts old in
    let whole = scoped_star preds k (insert fs (length fs) a) (subst (Scoped preds k) (sym (more_star old new a more)) s) in
    let r = insert_all (Scoped preds k) fs (length fs) a whole in
    (r.0, subst (Scoped preds k) (work_star old) (star_scoped preds k fs r.1))

star_first : (f : Formula) (fs : List Formula) → star (f ∷ fs) ≡ view.Sep f (star fs)
unfolding star_onto
star_first f fs = refl

module _ (w : Work) (l : Held) (last : IsLast w l) where
  -- bounds of the part
  pub part_fits : (depth_of (of_kind l.kind l.formula) ≤ height w) × (length w.goal.vars + depth_of (of_kind l.kind l.formula) ≤ width w) × (nodes_of (of_kind l.kind l.formula) ≤ suc (all_nodes (work_formulas w)))
  part_fits = (omega (arith, kind_deep l.kind l.formula, last_depth w l last, last_count w l last), omega (arith, kind_deep l.kind l.formula, last_depth w l last), omega (arith, kind_nodes l.kind l.formula, last_nodes w l last))

  pub beside_known : (part right st : Formula) (by t : Tree) → part ≡ of_kind l.kind l.formula → right ≡ right_side by → st ≡ left_of_work (rest w)
      → HasProof (length w.goal.vars) (of_kind l.kind l.formula) (entail (length w.goal.vars) (of_kind l.kind l.formula) (right_side by)) by
      → Closes by (entail (length w.goal.vars) (view.Sep part st) (view.Sep right st)) 2 (deepest (part ∷ right ∷ st ∷ []) [] + 1) (length w.goal.vars) t
      → IsBeside w l (right_side by) t
  beside_known part right st by t part_is right_is st_is p closes =
      let k = length w.goal.vars in
      let f = of_kind l.kind l.formula in
      let e0 = entail k f (right_side by) in
      let n = 200 * nodes_of f in
      let d = height w + 12 in
      let fits = part_fits in
      let deep1 : depth_of part ≤ height w = rw part_is fits.0 in
      let deep2 : depth_of right ≤ height w + 8 = rw right_is (omega (arith, right_deep k n (depth_of f + 8) (k + depth_of f) f (right_side by) by p, fits.0)) in
      let deep3 : depth_of st ≤ height w + 1 = rw st_is (omega (arith, star_height (rest w), rest_height w l last)) in
      let p1 : Proves Every (conclusion by) [] n d (width w) by = subst (λ x. Proves Every x [] n d (width w) by) (sym p.concludes) (weaker Every e0 [] n (depth_of f + 8) (k + depth_of f) n d (width w) by (omega arith) (omega (arith, fits.0)) fits.1 p) in
      let q = closes [] n d (width w) (omega (arith, deep1, deep2, deep3)) (omega arith) p1 in
      let m = 200 * all_nodes (work_formulas w) + 202 in
      let q1 : Proves Every (entail k (view.Sep part st) (view.Sep right st)) [] m d (width w) t = weaker Every (entail k (view.Sep part st) (view.Sep right st)) [] (2 + n) d (width w) m d (width w) t (omega (arith, fits.2)) (omega arith) (omega arith) q in
      subst (λ x. Proves Every (entail k (view.Sep x (left_of_work (rest w))) (view.Sep (right_side by) (left_of_work (rest w)))) [] m d (width w) t) part_is
      (subst (λ x. Proves Every (entail k (view.Sep part (left_of_work (rest w))) (view.Sep x (left_of_work (rest w)))) [] m d (width w) t) right_is
      (subst (λ x. Proves Every (entail k (view.Sep part x) (view.Sep right x)) [] m d (width w) t) st_is q1))

  front_is : star (in_front (work_parts w) (last_place w)) ≡ view.Sep (of_kind l.kind l.formula) (left_of_work (rest w))
  front_is = star_first _ _ ∙ ap₂ view.Sep (part_last w l last) (ap star (sym (without_last w l last)) ∙ work_star (rest w))

  pub front_meets : (q : Formula) (fronted step : Tree) → Moves (length w.goal.vars) (length (work_parts w)) (left_of_work w) (star (in_front (work_parts w) (last_place w))) fronted → IsBeside w l q step → left_side step ≡ right_side fronted
  front_meets q fronted step m b = ap (λ (e : Entail). e.left) b.concludes ∙ sym front_is ∙ sym (ap (λ (e : Entail). e.right) m.concludes)

  pub front_known : (q : Formula) (fronted step t : Tree) → Moves (length w.goal.vars) (length (work_parts w)) (left_of_work w) (star (in_front (work_parts w) (last_place w))) fronted → IsBeside w l q step → ChainProves fronted step t → IsFront w q t
  front_known q fronted step t m b chain =
      let k = length w.goal.vars in
      let L = left_of_work w in
      let R = left_of_work (rest w) in
      let f = of_kind l.kind l.formula in
      let s = all_nodes (work_formulas w) in
      let n = 100 * (length (work_parts w) + 1) in
      let n1 = 200 * s + 202 in
      let d = height w + 12 in
      let fits = part_fits in
      let m1 : Proves Every (entail k L (view.Sep f R)) [] n (star_room L (view.Sep f R)) k fronted = subst (λ r. Proves Every (entail k L r) [] n (star_room L r) k fronted) front_is m in
      let near : star_room L (view.Sep f R) ≤ d = omega (arith, star_height w, star_height (rest w), rest_height w l last, fits.0, depth_sep f R) in
      let m2 : Proves Every (conclusion fronted) [] n d (width w) fronted = subst (λ x. Proves Every x [] n d (width w) fronted) (sym m1.concludes) (weaker Every (entail k L (view.Sep f R)) [] n (star_room L (view.Sep f R)) k n d (width w) fronted (omega arith) near (omega arith) m1) in
      let b1 : Proves Every (conclusion step) [] n1 d (width w) step = subst (λ x. Proves Every x [] n1 d (width w) step) (sym b.concludes) b in
      let over : across fronted step ≡ entail k L (view.Sep q R) = ap₂ (λ (x y : Entail). entail x.vars x.left y.right) m1.concludes b.concludes in
      let scope : ScopedWhere (across fronted step) [] (conclusion fronted) = λ preds h none. subst (EntailScoped preds) (sym m.concludes) (both preds (subst (EntailScoped preds) over h).0) in
      let r : Proves Every (across fronted step) [] (n + n1 + 1) d (width w) t = chain Every [] [] n n1 d (width w) m2 b1 scope in
      weaker Every (entail k L (view.Sep q R)) [] (n + n1 + 1) d (width w) (300 * s + 203) d (width w) t (omega (arith, parts_nodes w)) (omega arith) (omega arith)
      (subst (λ x. Proves Every x [] (n + n1 + 1) d (width w) t) over r)
    where
      both : (preds : Preds) → Scoped preds (length w.goal.vars) (left_of_work w) → EntailScoped preds (entail (length w.goal.vars) (left_of_work w) (star (in_front (work_parts w) (last_place w))))
      both preds h = (h, front_scoped preds (length w.goal.vars) (work_parts w) (last_place w) (subst (Scoped preds (length w.goal.vars)) (sym (work_star w)) h))

-- ---- what is proved of the part, as the proof has it

pub by_right : (k : ℕ) (f x : Formula) (t : Tree) → HasProof k f (entail k f x) t → HasProof k f (entail k f (right_side t)) t
by_right k f x t p = subst (λ (y : Formula). HasProof k f (entail k f y) t) (sym (ap (λ (e : Entail). e.right) p.concludes)) p

pub right_of : (k : ℕ) (f x : Formula) (t : Tree) → HasProof k f (entail k f x) t → right_side t ≡ x
right_of k f x t p = ap (λ (e : Entail). e.right) p.concludes

-- the place, as code has it
pub fronted_at : (w : Work) (t : Tree) (place : ℕ) → place ≡ last_place w → Moves (length w.goal.vars) (length (work_parts w)) (left_of_work w) (star (in_front (work_parts w) place)) t → Moves (length w.goal.vars) (length (work_parts w)) (left_of_work w) (star (in_front (work_parts w) (last_place w))) t
fronted_at w t place at m = subst (λ (n : ℕ). Moves (length w.goal.vars) (length (work_parts w)) (left_of_work w) (star (in_front (work_parts w) n)) t) at m
