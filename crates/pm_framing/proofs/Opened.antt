-- From the star of a work to its conclusion, over what framing leaves.
use Rattle.std.proofs.Common.{◌≡◌, ℕ, ◌+◌, ◌*◌, ◌≤◌, max, List, [], ◌∷◌, length, refl, sym, ◌∙◌, ap, ap₂, subst, arith, Some, slice_get}
use Rattle.pm_logic.specs.declared.formula.Formula.{Formula}
use Rattle.pm_logic.specs.declared.formula.Formula.TheViews as view
use Rattle.pm_logic.specs.declared.formula.Preds.{Preds}
use Rattle.pm_logic.specs.Scope.{Scoped}
use Rattle.pm_logic.specs.Size.{depth_of, nodes_of}
use Rattle.pm_goal.specs.declared.work.Kind.{Kind}
use Rattle.pm_goal.specs.declared.work.Kind.TheVariants as kind
use Rattle.pm_goal.specs.declared.work.Work.{Work}
use Rattle.pm_goal.specs.Left.{of_kind, left_of_work}
use Rattle.pm_rules.specs.declared.rules.Entail.{Entail}
use Rattle.pm_proof.specs.Trees.{Tree, entail, conclusion, holes_of, splice}
use Rattle.pm_proof.specs.Known.{Proves, Every, ScopedWhere, FillProves}
use Rattle.pm_proof.proofs.Fills.{weaker}
use Rattle.pm_schemes.specs.Sketches.{deepest}
use Rattle.pm_star.specs.Stars.{work_parts}
use Rattle.pm_star.specs.Chains.{ChainProves, across}
use Rattle.pm_star.proofs.Scoping.{sep_scoped, scoped_sep, scoped_box, depth_box}
use Rattle.pm_classes.proofs.Sizes.{has_levels}
use Rattle.pm_action.specs.Meanings.{meaning, height, width}
use Rattle.pm_action.proofs.Heights.{concl_height, concl_depth}
use Rattle.pm_frame.specs.Frames.{FrameProof}
use Rattle.pm_framing.specs.Parting.{IsApart, FrameStep, Opens}

-- ---- a part without its box

unboxed_scoped : (preds : Preds) (k : ℕ) (z : Kind) (f : Formula) → Scoped preds k (of_kind z f) → Scoped preds k f
unboxed_scoped preds k kind.Int f s = scoped_box preds k f s
unboxed_scoped preds k kind.Spat f s = s

unboxed_depth : (z : Kind) (f : Formula) → depth_of f ≤ depth_of (of_kind z f)
unboxed_depth kind.Int f = omega (arith, depth_box f)
unboxed_depth kind.Spat f = omega arith

-- ---- the step over framing

abbrev holes : ℕ → Formula → Formula → Formula → Formula → List Entail
holes k r l g q = entail k l g ∷ entail k (view.Sep r g) q ∷ []

abbrev RuleProves : ℕ → Kind → Formula → Formula → Formula → Formula → Tree → Type 0
RuleProves k z r l g q t = Proves Every (entail k (view.Sep (of_kind z r) l) q) (holes k r l g q) 3 (deepest (r ∷ l ∷ g ∷ q ∷ []) [] + 2) k t

-- the second hole is what framing proves
pub step_hole : (k : ℕ) (z : Kind) (r l g q : Formula) (by s : Tree) → RuleProves k z r l g q s → FrameProof k r q g by → slice_get (holes_of s) 1 ≡ Some (conclusion by)
step_hole k z r l g q by s p f = ap (λ hs. slice_get hs 1) p.holes ∙ ap Some (sym f.concludes)

pub step_done : (k : ℕ) (z : Kind) (r l g q : Formula) (by s t : Tree) → RuleProves k z r l g q s → FrameProof k r q g by → FillProves s 1 by t → FrameStep k (of_kind z r) r l g q t
step_done k z r l g q by s t p f fills =
    let e = entail k (view.Sep (of_kind z r) l) q in
    let h = entail k (view.Sep r g) q in
    let hs = holes k r l g q in
    let n = 200 * nodes_of q in
    let d = deepest (r ∷ l ∷ g ∷ q ∷ []) [] + 8 in
    let v = k + depth_of q in
    let s1 : Proves Every e hs 3 d v s = weaker Every e hs 3 (deepest (r ∷ l ∷ g ∷ q ∷ []) [] + 2) k 3 d v s (omega arith) (omega arith) (omega arith) p in
    let f1 : Proves Every h [] n d v by = weaker Every h [] n (max (depth_of r) (depth_of q) + 8) v n d v by (omega arith) (omega arith) (omega arith) f in
    let f2 : Proves Every (conclusion by) [] n d v by = subst (λ x. Proves Every x [] n d v by) (sym f.concludes) f1 in
    let scope : ScopedWhere e (splice hs 1 []) h = λ preds es gs. (sep_scoped preds k r g (unboxed_scoped preds k z r (scoped_sep preds k (of_kind z r) l es.0).0) gs.0.1, es.1) in
    let all : Proves Every e (entail k l g ∷ []) (3 + n) d v t = fills Every e hs [] 3 n d v s1 f2 (subst (λ x. ScopedWhere e (splice hs 1 []) x) (sym f.concludes) scope) in
    weaker Every e (entail k l g ∷ []) (3 + n) d v (n + 3) d v t (omega arith) (omega arith) (omega arith) all

-- ---- from the star

pub opens_meet : (w : Work) (z : Kind) (r l g : Formula) (k : ℕ) (moved step : Tree) → IsApart w (of_kind z r) l moved → FrameStep k (of_kind z r) r l g w.goal.concl step → (conclusion step).left ≡ (conclusion moved).right
opens_meet w z r l g k moved step a s = ap (λ (e : Entail). e.left) s.concludes ∙ sym (ap (λ (e : Entail). e.right) a.proves.concludes)

pub opens_vars : (w : Work) (z : Kind) (r l g : Formula) (k : ℕ) (moved step : Tree) → k ≡ length w.goal.vars → IsApart w (of_kind z r) l moved → FrameStep k (of_kind z r) r l g w.goal.concl step → (conclusion step).vars ≡ (conclusion moved).vars
opens_vars w z r l g k moved step vars a s = ap (λ (e : Entail). e.vars) s.concludes ∙ (vars ∙ sym (ap (λ (e : Entail). e.vars) a.proves.concludes))

pub opens : (w : Work) (z : Kind) (r l g : Formula) (k : ℕ) (moved step t : Tree) → k ≡ length w.goal.vars → IsApart w (of_kind z r) l moved → FrameStep k (of_kind z r) r l g w.goal.concl step → ChainProves moved step t → Opens w l g t
opens w z r l g k1 moved step t vars a s0 chain =
    let k = length w.goal.vars in
    let q = w.goal.concl in
    let s : FrameStep k (of_kind z r) r l g q step = subst (λ n. FrameStep n (of_kind z r) r l g q step) vars s0 in
    let x = left_of_work w in
    let y = view.Sep (of_kind z r) l in
    let h = entail k l g in
    let n = 100 * length (work_parts w) + 100 in
    let m = 200 * nodes_of q + 3 in
    let d = max (height w) (depth_of g) + 10 in
    let v = width w in
    let low_r : depth_of r ≤ height w = omega (arith, unboxed_depth z r, a.part_depth) in
    let low : deepest (r ∷ l ∷ g ∷ q ∷ []) [] + 8 ≤ d = omega (arith, low_r, a.left_depth, concl_height w, has_levels q) in
    let a1 : Proves Every (conclusion moved) [] n d v moved = subst (λ e. Proves Every e [] n d v moved) (sym a.proves.concludes) (weaker Every (entail k x y) [] n (height w + 10) k n d v moved (omega arith) (omega arith) (omega arith) a.proves) in
    let s1 : Proves Every (conclusion step) (h ∷ []) m d v step = subst (λ e. Proves Every e (h ∷ []) m d v step) (sym s.concludes) (weaker Every (entail k y q) (h ∷ []) m (deepest (r ∷ l ∷ g ∷ q ∷ []) [] + 8) (k + depth_of q) m d v step (omega arith) low (omega (arith, concl_depth w)) s) in
    let over : across moved step ≡ meaning w = ap₂ (λ (e f : Entail). entail e.vars e.left f.right) a.proves.concludes s.concludes in
    let scope : ScopedWhere (across moved step) (h ∷ []) (conclusion moved) =
    subst (λ e. ScopedWhere e (h ∷ []) (conclusion moved)) (sym over) (subst (λ e. ScopedWhere (meaning w) (h ∷ []) e) (sym a.proves.concludes) (λ preds es gs. (es.0, a.scoped preds es.0))) in
    let all : Proves Every (across moved step) (h ∷ []) (n + m + 1) d v t = chain Every [] (h ∷ []) n m d v a1 s1 scope in
    weaker Every (meaning w) (h ∷ []) (n + m + 1) d v (100 * length (work_parts w) + 200 * nodes_of q + 104) d v t (omega arith) (omega arith) (omega arith)
    (subst (λ e. Proves Every e (h ∷ []) (n + m + 1) d v t) over all)
