-- What the rests of parts, with their proofs, give for the whole.
use Rattle.std.proofs.Common.{ℕ, suc, ◌+◌, ◌*◌, ◌≡◌, ◌≤◌, ◌<◌, max, Bool, true, false, if◌then◌else◌, [], ◌∷◌, Option, None, Some, IfSome, inl, inr, refl, sym, ap, subst, ◌∙◌, arith}
use Rattle.pm_logic.specs.declared.formula.Pure as P
use Rattle.pm_logic.specs.declared.formula.Pure.TheVariants.{True}
use Rattle.pm_logic.specs.declared.formula.Formula.{Formula}
use Rattle.pm_logic.specs.declared.formula.Formula.TheVariants.{Pure as Fact}
use Rattle.pm_logic.specs.declared.formula.Formula.TheViews as view
use Rattle.pm_logic.specs.Size.{pure_depth, depth_of, nodes_of}
use Rattle.pm_rules.specs.declared.rules.Entail.{Entail}
use Rattle.pm_proof.specs.Trees.{Tree, entail, conclusion}
use Rattle.pm_proof.specs.Known.{Proves, Every}
use Rattle.pm_proof.proofs.Fills.{weaker}
use Rattle.pm_classes.specs.Closing.{Closes, ClosesBoth}
use Rattle.pm_classes.proofs.Known.{own}
use Rattle.pm_table.specs.Basic.{is_truth}
use Rattle.pm_table.specs.Framing.{truth, above, frame}
use Rattle.pm_table.specs.FramingLaws.{IsLeft}
use Rattle.pm_table.proofs.Framings.{framing_shrinks}
use Rattle.pm_frame.specs.declared.framed.Framed.{Framed}
use Rattle.pm_frame.specs.Frames.{FrameProof, FrameAnswer, FrameAnswers}

-- ---- a part with its rest

pub record IsPart (k : ℕ) (r a : Formula) (o : Option Formula) (x : Framed) : Type 0 where
  pub row : o ≡ Some x.rest
  pub deep : depth_of x.rest ≤ max (depth_of a) 2
  pub proof : FrameProof k r a x.rest x.proof

pub depth_truth : depth_of truth ≡ 2
unfolding depth_of pure_depth
depth_truth = refl

pub rest_deep : (a g : Formula) → IsLeft a g → depth_of g ≤ max (depth_of a) 2
rest_deep a g (inl e) = omega (arith, ap depth_of e, depth_truth)
rest_deep a g (inr s) = omega (arith, s.depth)

pub part : (k : ℕ) (r a : Formula) (x : Framed) → FrameAnswer k r a (Some x) → IsPart k r a (frame r a) x
part k r a x h = go (frame r a) (framing_shrinks r a) h
  where
    go : (o : Option Formula) → IfSome o (IsLeft a) → FrameAnswers k r a o (Some x) → IsPart k r a o x
    go None law h = absurd h
    go (Some g) law h = record {
      row = ap Some (sym h.rest);
      deep = subst (λ (z : Formula). depth_of z ≤ max (depth_of a) 2) (sym h.rest) (rest_deep a g law);
      proof = subst (λ (z : Formula). FrameProof k r a z x.proof) (sym h.rest) h.proof;
    }

pub at : (k : ℕ) (r a : Formula) (o q : Option Framed) → o ≡ q → FrameAnswer k r a o → FrameAnswer k r a q
at k r a o q is h = subst (λ (z : Option Framed). FrameAnswer k r a z) is h

pub nothing : (k : ℕ) (r a : Formula) (o : Option Formula) → FrameAnswers k r a o None → o ≡ None
nothing k r a None h = refl
nothing k r a (Some g) h = absurd h

pub truth_is : (g : Formula) → is_truth g ≡ true → g ≡ truth
truth_is (Fact True) h = refl
truth_is _ h = absurd cc

-- what the proof concludes, also where the rest is truth
pub concludes : (k : ℕ) (r a : Formula) (x : Framed) → FrameAnswer k r a (Some x) → conclusion x.proof ≡ entail k (view.Sep r x.rest) a
concludes k r a x h = (part k r a x h).proof.concludes

pub concludes_truth : (k : ℕ) (r a : Formula) (x : Framed) → is_truth x.rest ≡ true → FrameAnswer k r a (Some x) → conclusion x.proof ≡ entail k (view.Sep r truth) a
concludes_truth k r a x gone h = concludes k r a x h ∙ ap (λ z. entail k (view.Sep r z) a) (truth_is x.rest gone)

-- ---- the answer

pub frame_done : (k : ℕ) (r q h : Formula) (o : Option Formula) (f : Framed) → o ≡ Some h → f.rest ≡ h → FrameProof k r q h f.proof → FrameAnswers k r q o (Some f)
frame_done k r q h o f is rest proof = subst (λ (z : Option Formula). FrameAnswers k r q z (Some f)) (sym is) (record { rest = rest; proof = proof })

pub frame_none : (k : ℕ) (r q : Formula) (o : Option Formula) → o ≡ None → FrameAnswers k r q o None
frame_none k r q o is = subst (λ (z : Option Formula). FrameAnswers k r q z None) (sym is) tt

-- ---- the bounds

pub closed_frame : (j k n d w : ℕ) (s a g r q h : Formula) (x t : Tree) → FrameProof j s a g x → Closes x (entail k (view.Sep r h) q) n d w t → n ≤ 200 → d ≤ max (depth_of r) (depth_of q) + 8 → w ≤ k + depth_of q → nodes_of a < nodes_of q → j + depth_of a ≤ k + depth_of q → depth_of s ≤ max (depth_of r) (depth_of q) → depth_of a ≤ depth_of q → FrameProof k r q h t
closed_frame j k n d w s a g r q h x t p c hn hd hw less vars hs ha =
    let b : ℕ = max (depth_of r) (depth_of q) + 8 in
    let i : ℕ = k + depth_of q in
    let p1 = weaker Every (conclusion x) [] (200 * nodes_of a) (max (depth_of s) (depth_of a) + 8) (j + depth_of a) (200 * nodes_of a) b i x (omega arith) (omega (arith, hs, ha)) vars (own (j + depth_of a) (200 * nodes_of a) (max (depth_of s) (depth_of a) + 8) (entail j (view.Sep s g) a) x p) in
    weaker Every (entail k (view.Sep r h) q) [] (n + 200 * nodes_of a) (max b d) i (200 * nodes_of q) b i t (omega (arith, less, hn)) (omega (arith, hd)) (omega arith) (c (200 * nodes_of a) b i hw p1)

pub closed_both_frame : (k n d : ℕ) (a b g l r q h : Formula) (x y t : Tree) → FrameProof k r a g x → FrameProof k r b l y → ClosesBoth x y (entail k (view.Sep r h) q) n d k t → n ≤ 200 → d ≤ max (depth_of r) (depth_of q) + 8 → nodes_of a + nodes_of b < nodes_of q → depth_of a ≤ depth_of q → depth_of b ≤ depth_of q → FrameProof k r q h t
closed_both_frame k n d a b g l r q h x y t p o c hn hd less ha hb =
    let e : ℕ = max (depth_of r) (depth_of q) + 8 in
    let i : ℕ = k + depth_of q in
    let p1 = weaker Every (conclusion x) [] (200 * nodes_of a) (max (depth_of r) (depth_of a) + 8) (k + depth_of a) (200 * nodes_of a) e i x (omega arith) (omega (arith, ha)) (omega (arith, ha)) (own (k + depth_of a) (200 * nodes_of a) (max (depth_of r) (depth_of a) + 8) (entail k (view.Sep r g) a) x p) in
    let o1 = weaker Every (conclusion y) [] (200 * nodes_of b) (max (depth_of r) (depth_of b) + 8) (k + depth_of b) (200 * nodes_of b) e i y (omega arith) (omega (arith, hb)) (omega (arith, hb)) (own (k + depth_of b) (200 * nodes_of b) (max (depth_of r) (depth_of b) + 8) (entail k (view.Sep r l) b) y o) in
    weaker Every (entail k (view.Sep r h) q) [] (n + 200 * nodes_of a + 200 * nodes_of b) (max e d) i (200 * nodes_of q) e i t (omega (arith, less, hn)) (omega (arith, hd)) (omega arith) (c (200 * nodes_of a) (200 * nodes_of b) e i (omega arith) p1 o1)

-- ---- a node with one part that is framed

pub above_kept : (node : Formula → Formula) (o : Option Formula) (g : Formula) → o ≡ Some g → is_truth g ≡ false → above node o ≡ Some (node g)
unfolding above
above_kept node o g is fails = ap (above node) is ∙ ap (λ (b : Bool). Some (if b then truth else node g)) fails

pub above_gone : (node : Formula → Formula) (o : Option Formula) (g : Formula) → o ≡ Some g → is_truth g ≡ true → above node o ≡ Some truth
unfolding above
above_gone node o g is holds = ap (above node) is ∙ ap (λ (b : Bool). Some (if b then truth else node g)) holds

above_nothing : (node : Formula → Formula) (o : Option Formula) → o ≡ None → above node o ≡ None
unfolding above
above_nothing node o is = ap (above node) is

pub above_none_at : (node : Formula → Formula) (j k : ℕ) (r s a q : Formula) → FrameAnswer j s a None → FrameAnswers k r q (above node (frame s a)) None
above_none_at node j k r s a q h = frame_none k r q (above node (frame s a)) (above_nothing node (frame s a) (nothing j s a (frame s a) h))

pub above_none : (node : Formula → Formula) (k : ℕ) (r s a q : Formula) → FrameAnswer k s a None → FrameAnswers k r q (above node (frame s a)) None
above_none node k r s a q h = frame_none k r q (above node (frame s a)) (above_nothing node (frame s a) (nothing k s a (frame s a) h))

pub kept_done : (node : Formula → Formula) (k n d : ℕ) (r s a q : Formula) (x f : Framed) → FrameAnswer k s a (Some x) → is_truth x.rest ≡ false → f.rest ≡ node x.rest → Closes x.proof (entail k (view.Sep r (node x.rest)) q) n d k f.proof → n ≤ 200 → (depth_of x.rest ≤ max (depth_of a) 2 → d ≤ max (depth_of r) (depth_of q) + 8) → nodes_of a < nodes_of q → depth_of a < depth_of q → depth_of s ≤ depth_of r → FrameAnswers k r q (above node (frame s a)) (Some f)
kept_done node k n d r s a q x f h fails rest closes hn hd nodes levels less =
    let p = part k s a x h in
    frame_done k r q (node x.rest) (above node (frame s a)) f (above_kept node (frame s a) x.rest p.row fails) rest (closed_frame k k n d k s a x.rest r q (node x.rest) x.proof f.proof p.proof closes hn (hd p.deep) (omega arith) nodes (omega (arith, levels)) (omega (arith, less)) (omega (arith, levels)))

pub gone_done : (node : Formula → Formula) (k n d : ℕ) (r s a q : Formula) (x f : Framed) → FrameAnswer k s a (Some x) → is_truth x.rest ≡ true → f.rest ≡ truth → Closes x.proof (entail k (view.Sep r truth) q) n d k f.proof → n ≤ 200 → d ≤ max (depth_of r) (depth_of q) + 8 → nodes_of a < nodes_of q → depth_of a < depth_of q → depth_of s ≤ depth_of r → FrameAnswers k r q (above node (frame s a)) (Some f)
gone_done node k n d r s a q x f h holds rest closes hn hd nodes levels less =
    let p = part k s a x h in
    frame_done k r q truth (above node (frame s a)) f (above_gone node (frame s a) x.rest p.row holds) rest (closed_frame k k n d k s a x.rest r q truth x.proof f.proof p.proof closes hn hd (omega arith) nodes (omega (arith, levels)) (omega (arith, less)) (omega (arith, levels)))
