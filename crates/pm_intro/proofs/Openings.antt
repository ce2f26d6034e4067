-- What is last in hand is taken apart into a variable and a body.
use Rattle.std.proofs.Common.{◌≡◌, ℕ, ◌+◌, ◌*◌, ◌^◌, ◌<◌, ◌≤◌, max, [], ◌∷◌, ◌++◌, length, refl, sym, ◌∙◌, ap, ap₂, subst, arith, Some, slice_get}
use Rattle.pm_logic.specs.declared.formula.Formula.{Formula}
use Rattle.pm_logic.specs.declared.formula.Formula.TheViews as view
use Rattle.pm_logic.specs.declared.formula.Preds.{Preds}
use Rattle.pm_logic.specs.Bounds.{IsBounded}
use Rattle.pm_logic.specs.Scope.{Scoped}
use Rattle.pm_logic.specs.Size.{depth_of}
use Rattle.pm_logic.specs.Substitution.{shift_of}
use Rattle.pm_logic.proofs.Scopes.{wand_scoped_in}
use Rattle.pm_goal.specs.declared.work.Kind.{Kind}
use Rattle.pm_goal.specs.declared.work.Held.{Held}
use Rattle.pm_goal.specs.declared.work.Work.{Work}
use Rattle.pm_goal.specs.Left.{of_kind, left_of_work}
use Rattle.pm_rules.specs.declared.pattern.Binary.TheVariants as binary
use Rattle.pm_proof.specs.Trees.{Tree, entail, conclusion, side_depth, holes_of, filled}
use Rattle.pm_proof.specs.Valid.{EntailScoped}
use Rattle.pm_proof.specs.Known.{Proves, Every, ScopedWhere, FillProves}
use Rattle.pm_proof.proofs.Fills.{weaker, fills}
use Rattle.pm_schemes.specs.Sketches.{deepest}
use Rattle.pm_schemes.proofs.Scopes.{two_scoped}
use Rattle.pm_classes.proofs.Bound.{shift_deep}
use Rattle.pm_star.specs.Stars.{work_parts}
use Rattle.pm_star.proofs.Places.{gains_held}
use Rattle.pm_star.proofs.Scoping.{depth_sep}
use Rattle.pm_classes.proofs.Sizes.{depth_wand, depth_ex}
use Rattle.pm_table.specs.Limits.{all_nodes, work_formulas}
use Rattle.pm_table.specs.Works.{Named, holding, work_of}
use Rattle.pm_action.specs.Meanings.{meaning, height, width}
use Rattle.pm_action.specs.Acting.{IsHanded, IsLast}
use Rattle.pm_action.proofs.Heights.{star_height, concl_height, parts_nodes, parts_are}
use Rattle.pm_intro.specs.Closing.{Closes}
use Rattle.pm_intro.specs.Ending.{HasMore, Reaches}
use Rattle.pm_intro.specs.Hands.{rest}
use Rattle.pm_intro.specs.Variables.{lifted, opened, IsUnder, IsOpened}
use Rattle.pm_intro.proofs.Handed.{last_nodes, last_count, rest_height, concl_handed, has_last}
use Rattle.pm_intro.proofs.Entering.{beside_deep}
use Rattle.pm_intro.proofs.InFront.{more_scoped}
use Rattle.pm_intro.proofs.Shifting.{lifted_star, lifted_count, lifted_vars, shift_wand, rest_in}

-- what stands in the place of the hole leaves what is proved
pub inner_says : (v : ℕ) (part st c g E : Formula) (under step inner : Tree) → inner ≡ filled step 0 under → slice_get (holes_of step) 0 ≡ Some (conclusion under) → conclusion step ≡ entail v (view.Ex part) g → g ≡ view.Wand st c → E ≡ view.Ex part → conclusion inner ≡ entail v E (view.Wand st c)
inner_says v part st c g E under step inner is hole says g_is E_is = ap (λ (x : Tree). conclusion x) is ∙ (fills step 0 under hole).concludes ∙ says ∙ ap₂ (λ x y. entail v x y) (sym E_is) g_is

-- the body is one part more
pub opens_more : (w : Work) (z : Kind) (x : Named) (b : Formula) → HasMore (lifted x (shift_of w.goal.concl) (rest w)) (of_kind z b) (opened w z x b)
opens_more w z x b = gains_held (lifted x (shift_of w.goal.concl) (rest w)) (opened w z x b) (holding z b) refl refl

pub opened_vars : (w : Work) (z : Kind) (x : Named) (b : Formula) → length (opened w z x b).goal.vars ≡ length w.goal.vars + 1
opened_vars w z x b = lifted_vars x w.goal.vars

module _ (w : Work) (l : Held) (last : IsLast w l) (x : Named) (part : Formula) (new : Work) where
  abbrev pub up : Work
  up = lifted x (shift_of w.goal.concl) (rest w)

  abbrev pub R : Formula
  R = left_of_work (rest w)

  pub under_gap : (st c : Formula) (reached : Tree) → length new.goal.vars ≡ length w.goal.vars + 1 → c ≡ new.goal.concl → st ≡ left_of_work up → Reaches up part new reached → conclusion reached ≡ entail (length w.goal.vars + 1) (view.Sep part st) c
  under_gap st c reached v c_is is p = p.concludes ∙ ap₂ (λ n y. entail n (view.Sep part (left_of_work up)) y) v (sym c_is) ∙ ap (λ y. entail (length w.goal.vars + 1) (view.Sep part y) c) (sym is)

  pub under_known : (st c : Formula) (reached t : Tree) → HasMore up part new → length new.goal.vars ≡ length w.goal.vars + 1 → new.goal.concl ≡ shift_of w.goal.concl → c ≡ new.goal.concl → st ≡ left_of_work up → Reaches up part new reached
      → Closes reached (entail (length w.goal.vars + 1) part (view.Wand st c)) 1 (deepest (part ∷ st ∷ c ∷ []) [] + 1) (length w.goal.vars + 1) t
      → IsUnder w part new t
  under_known st c reached t more v concl c_is is p closes =
      let k = length w.goal.vars + 1 in
      let n = 100 * (length (work_parts up) + 1) + 1 in
      let d = max (height w) (height new) + 16 in
      let e0 = entail (length new.goal.vars) (view.Sep part (left_of_work up)) new.goal.concl in
      let deep1 : depth_of (view.Sep part (left_of_work up)) ≤ height new + 2 = beside_deep up new part more in
      let deep2 : depth_of st ≤ height new + 2 = rw is (omega (arith, deep1, depth_sep part (left_of_work up))) in
      let deep3 : depth_of c ≤ height new = rw c_is (concl_height new) in
      let p1 : Proves Every (conclusion reached) (meaning new ∷ []) n d k reached = subst (λ y. Proves Every y (meaning new ∷ []) n d k reached) (sym p.concludes) (weaker Every e0 (meaning new ∷ []) n (height new + 16) (length new.goal.vars) n d k reached (omega arith) (omega arith) (omega (arith, v)) p) in
      let q = closes (meaning new ∷ []) n d k (omega (arith, deep1, deep2, deep3, depth_sep part (left_of_work up))) (omega arith) p1 in
      let m = 100 * all_nodes (work_formulas w) + 2 in
      let q1 : Proves Every (entail k part (view.Wand st c)) (meaning new ∷ []) m d k t = weaker Every (entail k part (view.Wand st c)) (meaning new ∷ []) (1 + n) d k m d k t (omega (arith, lifted_count x (shift_of w.goal.concl) (rest w), parts_nodes (rest w), last_nodes w l last)) (omega arith) (omega arith) q in
      let to : view.Wand st c ≡ shift_of (view.Wand R w.goal.concl) = ap₂ view.Wand (is ∙ sym (lifted_star x (shift_of w.goal.concl) (rest w))) (c_is ∙ concl) ∙ sym (shift_wand R w.goal.concl) in
      subst (λ y. Proves Every (entail k part y) (meaning new ∷ []) m d k t) to q1

  pub wand_bounded : (st c g : Formula) → IsHanded w → st ≡ R → c ≡ w.goal.concl → g ≡ view.Wand st c → IsBounded g
  wand_bounded st c g h is c_is g_is =
      let k = length w.goal.vars in
      let all : IsBounded (view.Wand R w.goal.concl) = record {
        vars = k;
        scoped = wand_scoped_in k R w.goal.concl (rest_in w l last h) (concl_handed w h).scoped;
        within = omega (arith, star_height (rest w), rest_height w l last, concl_height w, h.few, h.shallow, depth_wand R w.goal.concl);
      } in
      subst IsBounded (sym (g_is ∙ ap₂ view.Wand is c_is)) all

  hole_same : (st g : Formula) → st ≡ R → g ≡ view.Wand st w.goal.concl → g ≡ view.Wand R w.goal.concl
  hole_same st g is g_is = g_is ∙ ap (λ y. view.Wand y w.goal.concl) is

  pub closed_hole : (st g : Formula) (under step : Tree) (n d j : ℕ) → st ≡ R → g ≡ view.Wand st w.goal.concl → IsUnder w part new under
      → Proves Every (entail (length w.goal.vars) (view.Ex part) g) (entail (length w.goal.vars + 1) part (shift_of g) ∷ []) n d j step → slice_get (holes_of step) 0 ≡ Some (conclusion under)
  closed_hole st g under step n d j is g_is p q = rw q.holes (ap Some (ap (λ y. entail (length w.goal.vars + 1) part (shift_of y)) (hole_same st g is g_is) ∙ sym p.concludes))

  pub opened_known : (st g E : Formula) (under step inner t : Tree) → HasMore up part new → length new.goal.vars ≡ length w.goal.vars + 1 → new.goal.concl ≡ shift_of w.goal.concl
      → st ≡ R → g ≡ view.Wand st w.goal.concl → E ≡ view.Ex part → IsUnder w part new under
      → Proves Every (entail (length w.goal.vars) (view.Ex part) g) (entail (length w.goal.vars + 1) part (shift_of g) ∷ []) 1 (max (side_depth (entail (length w.goal.vars) (view.Ex part) g)) (side_depth (entail (length w.goal.vars + 1) part (shift_of g)))) (length w.goal.vars + 1) step
      → FillProves step 0 under inner
      → Closes inner (entail (length w.goal.vars) (view.Sep E st) w.goal.concl) 1 (deepest (E ∷ st ∷ w.goal.concl ∷ []) [] + 1) (length w.goal.vars) t
      → IsOpened w part new t
  opened_known st g E under step inner t more v concl is g_is E_is p q fill closes =
      let k = length w.goal.vars in
      let C = w.goal.concl in
      let G = view.Wand R C in
      let d = max (height w) (height new) + 16 in
      let n = 100 * all_nodes (work_formulas w) + 2 in
      let hs = meaning new ∷ [] in
      let same = hole_same st g is g_is in
      let h0 = entail (k + 1) part (shift_of G) in
      let e0 = entail k (view.Ex part) G in
      let deep1 : depth_of R ≤ height w + 1 = omega (arith, star_height (rest w), rest_height w l last) in
      let deep2 : depth_of part ≤ height new + 1 = omega (arith, beside_deep up new part more, depth_sep part (left_of_work up)) in
      let deep3 : depth_of st ≤ height w + 1 = rw is deep1 in
      let deep4 : depth_of E ≤ height new + 2 = rw E_is (omega (arith, deep2, depth_ex part)) in
      let q1 : Proves Every e0 (h0 ∷ []) 1 (max (side_depth e0) (side_depth h0)) (k + 1) step = subst (λ y. Proves Every (entail k (view.Ex part) y) (entail (k + 1) part (shift_of y) ∷ []) 1 (max (side_depth (entail k (view.Ex part) y)) (side_depth (entail (k + 1) part (shift_of y)))) (k + 1) step) same q in
      let q2 : Proves Every e0 (conclusion under ∷ []) 1 d (width w) step = subst (λ y. Proves Every e0 (y ∷ []) 1 d (width w) step) (sym p.concludes) (weaker Every e0 (h0 ∷ []) 1 (max (side_depth e0) (side_depth h0)) (k + 1) 1 d (width w) step (omega arith) (omega (arith, deep1, deep2, concl_height w, depth_ex part, depth_wand R C, shift_deep G)) (omega arith) q1) in
      let p1 : Proves Every (conclusion under) hs n d (width w) under = subst (λ y. Proves Every y hs n d (width w) under) (sym p.concludes) (weaker Every h0 hs n d (k + 1) n d (width w) under (omega arith) (omega arith) (omega arith) p) in
      let scope : ScopedWhere e0 (hs ++ []) (conclusion under) = λ preds h all. subst (EntailScoped preds) (sym p.concludes) (under_scoped preds all.0) in
      let r : Proves Every e0 (hs ++ []) (1 + n) d (width w) inner = fill Every e0 (conclusion under ∷ []) hs 1 n d (width w) q2 p1 scope in
      let r1 : Proves Every (conclusion inner) hs (1 + n) d (width w) inner = subst (λ y. Proves Every y hs (1 + n) d (width w) inner) (sym r.concludes) r in
      let u = closes hs (1 + n) d (width w) (omega (arith, deep3, deep4, concl_height w)) (omega arith) r1 in
      let m = 100 * all_nodes (work_formulas w) + 4 in
      let u1 : Proves Every (entail k (view.Sep E st) C) hs m d (width w) t = weaker Every (entail k (view.Sep E st) C) hs (1 + (1 + n)) d (width w) m d (width w) t (omega arith) (omega arith) (omega arith) u in
      subst (λ y. Proves Every (entail k (view.Sep y R) C) hs m d (width w) t) E_is (subst (λ y. Proves Every (entail k (view.Sep E y) C) hs m d (width w) t) is u1)
    where
      under_scoped : (preds : Preds) → EntailScoped preds (meaning new) → EntailScoped preds (entail (length w.goal.vars + 1) part (shift_of (view.Wand (left_of_work (rest w)) w.goal.concl)))
      under_scoped preds s =
          let j = length w.goal.vars + 1 in
          let f = more_scoped preds j up new part more (subst (λ n. Scoped preds n (left_of_work new)) v s.0) in
          let c : Scoped preds j (shift_of w.goal.concl) = subst (Scoped preds j) concl (subst (λ n. Scoped preds n new.goal.concl) v s.1) in
          let r : Scoped preds j (shift_of (left_of_work (rest w))) = subst (Scoped preds j) (sym (lifted_star x (shift_of w.goal.concl) (rest w))) f.1 in
          (f.0, subst (Scoped preds j) (sym (shift_wand (left_of_work (rest w)) w.goal.concl)) (two_scoped preds j binary.Wand (shift_of (left_of_work (rest w))) (shift_of w.goal.concl) r c))

-- ---- as code has it

pub lifted_as : (w rst new : Work) (x : Named) (c : Formula) → rst ≡ rest w → c ≡ shift_of w.goal.concl → new ≡ lifted x c rst → new ≡ lifted x (shift_of w.goal.concl) (rest w)
lifted_as w rst new x c rst_is c_is e = e ∙ ap₂ (λ y z. lifted x y z) c_is rst_is

pub opened_as : (w lift1 new : Work) (z : Kind) (x : Named) (b f : Formula) → lift1 ≡ lifted x (shift_of w.goal.concl) (rest w) → f ≡ b → new ≡ work_of lift1.goal (lift1.held ++ holding z f ∷ []) → new ≡ opened w z x b
opened_as w lift1 new z x b f is f_is e = e ∙ ap₂ (λ (y : Work) (g : Formula). work_of y.goal (y.held ++ holding z g ∷ [])) is f_is

-- the work with the variable, which code has before the body is held
module _ (w : Work) (some : 0 < length w.held) (h : IsHanded w) (x : Named) (lift1 : Work) (is : lift1 ≡ lifted x (shift_of w.goal.concl) (rest w)) where
  vars_are : length lift1.goal.vars ≡ length w.goal.vars + 1
  vars_are = ap (λ (y : Work). length y.goal.vars) is ∙ lifted_vars x w.goal.vars

  pub lifted_few : length lift1.goal.vars < 2 ^ 32
  lifted_few = omega (arith, vars_are, h.few)

  pub lifted_small : length (work_parts lift1) < 2 ^ 32
  lifted_small = let l = has_last w some in omega (arith, ap (λ (y : Work). length (work_parts y)) is, lifted_count x (shift_of w.goal.concl) (rest w), parts_are (rest w), last_count w l.0 l.1, h.few)

  pub same_vars : (new : Work) → length new.goal.vars ≡ length w.goal.vars + 1 → length new.goal.vars ≡ length lift1.goal.vars
  same_vars new v = v ∙ sym vars_are

  pub has_more : (part : Formula) (new : Work) → HasMore (lifted x (shift_of w.goal.concl) (rest w)) part new → HasMore lift1 part new
  has_more part new more = subst (λ (y : Work). HasMore y part new) (sym is) more

  reached_as : (part : Formula) (new : Work) (t : Tree) → Reaches lift1 part new t → Reaches (lifted x (shift_of w.goal.concl) (rest w)) part new t
  reached_as part new t p = subst (λ (y : Work). Reaches y part new t) is p

  pub gap_as : (part st : Formula) (new : Work) (t : Tree) → length new.goal.vars ≡ length w.goal.vars + 1 → st ≡ left_of_work lift1 → Reaches lift1 part new t → conclusion t ≡ entail (length w.goal.vars + 1) (view.Sep part st) new.goal.concl
  gap_as part st new t v st_is p = let l = has_last w some in under_gap w l.0 l.1 x part new st new.goal.concl t v refl (st_is ∙ ap (λ (y : Work). left_of_work y) is) (reached_as part new t p)

  pub under_as : (part st : Formula) (new : Work) (reached t : Tree) → HasMore (lifted x (shift_of w.goal.concl) (rest w)) part new → length new.goal.vars ≡ length w.goal.vars + 1 → new.goal.concl ≡ shift_of w.goal.concl → st ≡ left_of_work lift1 → Reaches lift1 part new reached
      → Closes reached (entail (length w.goal.vars + 1) part (view.Wand st new.goal.concl)) 1 (deepest (part ∷ st ∷ new.goal.concl ∷ []) [] + 1) (length w.goal.vars + 1) t
      → IsUnder w part new t
  under_as part st new reached t more v concl st_is p closes =
      let l = has_last w some in
      under_known w l.0 l.1 x part new st new.goal.concl reached t more v concl refl (st_is ∙ ap (λ (y : Work). left_of_work y) is) (reached_as part new reached p) closes

pub opened_more : (w new : Work) (z : Kind) (x : Named) (b part : Formula) → new ≡ opened w z x b → part ≡ of_kind z b → HasMore (lifted x (shift_of w.goal.concl) (rest w)) part new
opened_more w new z x b part is part_is =
    subst (λ (y : Work). HasMore (lifted x (shift_of w.goal.concl) (rest w)) part y) (sym is)
    (subst (λ (y : Formula). HasMore (lifted x (shift_of w.goal.concl) (rest w)) y (opened w z x b)) (sym part_is) (opens_more w z x b))

pub opened_count : (w new : Work) (z : Kind) (x : Named) (b : Formula) → new ≡ opened w z x b → length new.goal.vars ≡ length w.goal.vars + 1
opened_count w new z x b is = ap (λ (y : Work). length y.goal.vars) is ∙ opened_vars w z x b
