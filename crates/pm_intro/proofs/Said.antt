-- What the steps on what is last in hand are handed, and what they conclude.
use Rattle.std.proofs.Common.{◌≡◌, ℕ, ◌+◌, ◌*◌, ◌≤◌, max, List, [], ◌∷◌, length, sym, ◌∙◌, ap, ap₂, subst, arith}
use Rattle.std.specs.Prelude.{set}
use Rattle.pm_logic.specs.declared.formula.Formula.{Formula}
use Rattle.pm_logic.specs.declared.formula.Formula.TheViews as view
use Rattle.pm_logic.specs.Size.{depth_of, nodes_of}
use Rattle.pm_goal.specs.declared.work.Kind.{Kind}
use Rattle.pm_goal.specs.declared.work.Kind.TheVariants.{Spat}
use Rattle.pm_goal.specs.declared.work.Held.{Held}
use Rattle.pm_goal.specs.declared.work.Work.{Work}
use Rattle.pm_goal.specs.Left.{of_kind, left_of_work}
use Rattle.pm_rules.specs.declared.rules.Entail.{Entail}
use Rattle.pm_proof.specs.Trees.{Tree, entail, conclusion}
use Rattle.pm_proof.specs.Known.{Proves, Every}
use Rattle.pm_proof.proofs.Fills.{weaker}
use Rattle.pm_schemes.specs.Sketches.{deepest}
use Rattle.pm_star.specs.Stars.{star, work_parts, part_at, MovesBy}
use Rattle.pm_star.specs.Chains.{paired}
use Rattle.pm_star.specs.Levels.{left_side, right_side}
use Rattle.pm_classes.specs.declared.entry.Pair.{Pair}
use Rattle.pm_classes.proofs.Sizes.{depth_and}
use Rattle.pm_table.specs.Works.{holding}
use Rattle.pm_action.specs.Acting.{IsLast, last_place}
use Rattle.pm_action.proofs.Hands.{part_last}
use Rattle.pm_intro.specs.Closing.{Closes}
use Rattle.pm_intro.specs.Hands.{kept, HasParts}
use Rattle.pm_intro.specs.Pairs.{Becomes}
use Rattle.pm_intro.proofs.Parted.{one_becomes, both_become, part_says}

closes_says : (x t : Tree) (e e0 : Entail) (hs : List Entail) (n d w m b k : ℕ) → Closes x e n d w t → Proves Every e0 hs m b k x → conclusion t ≡ e
closes_says x t e e0 hs n d w m b k closes p =
    let p1 : Proves Every e0 hs m (max b d) (max k w) x = weaker Every e0 hs m b k m (max b d) (max k w) x (omega arith) (omega arith) (omega arith) p in
    let p2 : Proves Every (conclusion x) hs m (max b d) (max k w) x = subst (λ y. Proves Every y hs m (max b d) (max k w) x) (sym p.concludes) p1 in
    (closes hs m (max b d) (max k w) (omega arith) (omega arith) p2).concludes

-- ---- both parts

pub parts_gap : (z : Kind) (k : ℕ) (f wh f1 f2 : Formula) (r : Pair) → wh ≡ of_kind z f → f1 ≡ of_kind z r.first → f2 ≡ of_kind z r.second → HasParts z k f r → conclusion r.proof ≡ entail k wh (view.Sep f1 f2)
parts_gap z k f wh f1 f2 r wh_is f1_is f2_is p = p.concludes ∙ ap (λ (x : Formula). entail k x (view.Sep (of_kind z r.first) (of_kind z r.second))) (sym wh_is) ∙ ap₂ (λ x y. entail k wh (view.Sep x y)) (sym f1_is) (sym f2_is)

module _ (w : Work) (l : Held) (last : IsLast w l) where
  pub both_says : (r : Pair) (wh f1 f2 : Formula) (by : Tree) (place : ℕ) → place ≡ last_place w → wh ≡ of_kind l.kind l.formula → HasParts l.kind (length w.goal.vars) l.formula r
      → Closes r.proof (entail (length w.goal.vars) wh (view.Sep f2 f1)) 2 (deepest (wh ∷ f1 ∷ f2 ∷ []) [] + 1) (length w.goal.vars) by
      → conclusion by ≡ entail (length w.goal.vars) (part_at (work_parts w) place) (view.Sep f2 f1)
  both_says r wh f1 f2 by place at wh_is p closes =
      let k = length w.goal.vars in
      let f = of_kind l.kind l.formula in
      let e0 = entail k f (view.Sep (of_kind l.kind r.first) (of_kind l.kind r.second)) in
      let says : conclusion by ≡ entail k wh (view.Sep f2 f1) = closes_says r.proof by (entail k wh (view.Sep f2 f1)) e0 [] 2 (deepest (wh ∷ f1 ∷ f2 ∷ []) [] + 1) k (200 * nodes_of f) (depth_of f + 8) (k + depth_of f) closes p in
      part_says w l last l.kind by (view.Sep f2 f1) wh wh_is says ∙ ap (λ n. entail k (part_at (work_parts w) n) (view.Sep f2 f1)) (sym at)

  pub both_at : (r : Pair) (wh f1 f2 : Formula) (by t : Tree) (place : ℕ) → place ≡ last_place w → wh ≡ of_kind l.kind l.formula → f1 ≡ of_kind l.kind r.first → f2 ≡ of_kind l.kind r.second
      → HasParts l.kind (length w.goal.vars) l.formula r
      → Closes r.proof (entail (length w.goal.vars) wh (view.Sep f2 f1)) 2 (deepest (wh ∷ f1 ∷ f2 ∷ []) [] + 1) (length w.goal.vars) by
      → MovesBy by (length w.goal.vars) (length (work_parts w)) (left_of_work w) (star (paired (work_parts w) place f2 f1)) t
      → Becomes w (kept w (holding l.kind r.second ∷ holding l.kind r.first ∷ [])) t
  both_at r wh f1 f2 by t place at wh_is f1_is f2_is p closes m =
      both_become w l last r wh f1 f2 by t wh_is f1_is f2_is p closes
      (subst (λ (n : ℕ). MovesBy by (length w.goal.vars) (length (work_parts w)) (left_of_work w) (star (paired (work_parts w) n f2 f1)) t) at m)

  -- ---- one part

  pub one_left : (a b c : Formula) (by : Tree) (place n d : ℕ) → l ≡ holding Spat (view.And a b) → place ≡ last_place w
      → Proves Every (entail (length w.goal.vars) (view.And a b) c) [] n d (length w.goal.vars) by
      → left_side by ≡ part_at (work_parts w) place
  one_left a b c by place n d is at p =
      ap (λ (e : Entail). e.left) p.concludes ∙ sym (ap (λ (h : Held). of_kind h.kind h.formula) is) ∙ sym (part_last w l last) ∙ ap (λ i. part_at (work_parts w) i) (sym at)

  one_at : (a b c : Formula) (by t : Tree) (place : ℕ) → l ≡ holding Spat (view.And a b) → place ≡ last_place w → depth_of c ≤ depth_of (view.And a b)
      → Proves Every (entail (length w.goal.vars) (view.And a b) c) [] 1 (deepest (a ∷ b ∷ []) [] + 1) (length w.goal.vars) by
      → MovesBy by (length w.goal.vars) (length (work_parts w)) (left_of_work w) (star (set (work_parts w) place (right_side by))) t
      → Becomes w (kept w (holding Spat c ∷ [])) t
  one_at a b c by t place is at no_deeper p m =
      one_becomes w l last a b c by t is no_deeper p
      (subst (λ (i : ℕ). MovesBy by (length w.goal.vars) (length (work_parts w)) (left_of_work w) (star (set (work_parts w) i (right_side by))) t) at m)

  pub first_at : (a b : Formula) (by t : Tree) (place : ℕ) → l ≡ holding Spat (view.And a b) → place ≡ last_place w
      → Proves Every (entail (length w.goal.vars) (view.And a b) a) [] 1 (deepest (a ∷ b ∷ []) [] + 1) (length w.goal.vars) by
      → MovesBy by (length w.goal.vars) (length (work_parts w)) (left_of_work w) (star (set (work_parts w) place (right_side by))) t
      → Becomes w (kept w (holding Spat a ∷ [])) t
  first_at a b by t place is at p m = one_at a b a by t place is at (omega (arith, depth_and a b)) p m

  pub second_at : (a b : Formula) (by t : Tree) (place : ℕ) → l ≡ holding Spat (view.And a b) → place ≡ last_place w
      → Proves Every (entail (length w.goal.vars) (view.And a b) b) [] 1 (deepest (a ∷ b ∷ []) [] + 1) (length w.goal.vars) by
      → MovesBy by (length w.goal.vars) (length (work_parts w)) (left_of_work w) (star (set (work_parts w) place (right_side by))) t
      → Becomes w (kept w (holding Spat b ∷ [])) t
  second_at a b by t place is at p m = one_at a b b by t place is at (omega (arith, depth_and a b)) p m
