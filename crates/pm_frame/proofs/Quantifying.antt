-- The answers for quantifiers.
use Rattle.std.proofs.Common.{ℕ, suc, ◌+◌, ◌≡◌, ◌≤◌, ◌<◌, max, true, false, [], ◌∷◌, ◌*◌, Option, None, Some, IfSome, inl, inr, refl, sym, ap, subst, ◌∙◌, arith, add-one, pos}
use Rattle.pm_logic.specs.declared.formula.Term.TheVariants.{Lit}
use Rattle.pm_logic.specs.declared.formula.Pure.TheVariants.{True}
use Rattle.pm_logic.specs.declared.formula.Formula.{Formula}
use Rattle.pm_logic.specs.declared.formula.Formula.TheViews as view
use Rattle.pm_logic.specs.declared.formula.TheConstants.{BOUND}
use Rattle.pm_logic.specs.declared.limits.TheConstants.{MAX_LINE_LEVELS}
use Rattle.pm_logic.specs.Bounds.{IsBounded}
use Rattle.pm_logic.specs.Scope.{ScopedIn}
use Rattle.pm_logic.specs.Size.{term_depth, depth_of, nodes_of}
use Rattle.pm_logic.specs.Substitution.{in_pure, in_formula, shift_of}
use Rattle.pm_logic.proofs.Scopes.{scoped_in_quantified, quantified_scoped_in, sep_scoped_in, wand_scoped_in, pure_scoped_in_from, true_scoped, lit_scoped}
use Rattle.pm_rules.specs.declared.rules.Entail.{Entail}
use Rattle.pm_proof.specs.Trees.{Tree, entail, conclusion}
use Rattle.pm_proof.specs.Valid.{TermFits}
use Rattle.pm_proof.specs.Known.{Proves, Every}
use Rattle.pm_schemes.specs.Sketches.{deepest}
use Rattle.pm_classes.specs.Closing.{Closes, ClosesBoth}
use Rattle.pm_classes.specs.Entries.{IsHanded}
use Rattle.pm_classes.proofs.Bound.{shift_deep, shifted_in}
use Rattle.pm_classes.proofs.Sizes.{has_levels, depth_sep, depth_wand, depth_all, depth_ex, nodes_all, nodes_ex}
use Rattle.pm_table.specs.Basic.{is_truth}
use Rattle.pm_table.specs.Framing.{truth, above, frame}
use Rattle.pm_frame.specs.declared.framed.Framed.{Framed}
use Rattle.pm_frame.specs.Frames.{AreHanded, FrameProof, FrameAnswer, FrameAnswers}
use Rattle.pm_frame.proofs.Parts.{IsPart, part, at, truth_is, depth_truth, frame_done, closed_frame, above_kept, above_gone, above_none_at}
use Rattle.pm_frame.proofs.RestScoped.{OneIn, frame_in}
use Rattle.pm_frame.proofs.Binding.{composed, known_first, concluded}

-- ---- the literal 0 in place of a variable that truth doesn't name

pub truth_bounded : IsBounded truth
truth_bounded = record { vars = 0; scoped = pure_scoped_in_from 0 True (true_scoped 0); within = omega (arith, depth_truth) }

pub zero_fits : (k : ℕ) → TermFits k (Lit (pos 0))
unfolding term_depth
zero_fits k = record { scoped = lit_scoped k (pos 0); levels = omega arith }

pub ex_gone_done : (k n d : ℕ) (e : Entail) (there inner out : Tree) → Proves Every (entail k truth (view.Ex truth)) [] 1 3 k there → ClosesBoth there inner e n d k out → 3 ≤ d → Closes inner e (n + 1) d k out
ex_gone_done k n d e there inner out p closes hd = known_first k n d 1 3 (n + 1) d e (entail k truth (view.Ex truth)) there inner out p closes (omega arith) (omega (arith, hd))

-- ---- what is handed on

rest_in : (k : ℕ) (r s a : Formula) (x : Framed) → s ≡ shift_of r → ScopedIn k r → ScopedIn (k + 1) a → FrameAnswer (k + 1) s a (Some x) → ScopedIn (k + 1) x.rest
rest_in k r s a x shifted hr ha h =
    let hs : ScopedIn (k + 1) s = subst (λ (z : Formula). ScopedIn (k + 1) z) (sym shifted) (rw add-one (shifted_in k r hr)) in
    subst (λ (o : Option Formula). OneIn (k + 1) o) (part (k + 1) s a x h).row (frame_in (k + 1) s a hs ha)

all_body : (k : ℕ) (r a : Formula) → AreHanded k r (view.All a) → ScopedIn (k + 1) a
all_body k r a h = scoped_in_quantified k (view.All a) a (inl refl) h.conclusion

pub all_rest_handed : (k : ℕ) (r s a : Formula) (x : Framed) → s ≡ shift_of r → AreHanded k r (view.All a) → FrameAnswer (k + 1) s a (Some x) → IsHanded (k + 1) x.rest
all_rest_handed k r s a x shifted h answer = record { scoped = rest_in k r s a x shifted h.hypothesis (all_body k r a h) answer; within = omega (arith, h.within, depth_all a, has_levels r, has_levels a, (part (k + 1) s a x answer).deep) }

pub ex_body_handed : (k : ℕ) (r a : Formula) → AreHanded k r (view.Ex a) → IsHanded (k + 1) a
ex_body_handed k r a h = record { scoped = scoped_in_quantified k (view.Ex a) a (inr refl) h.conclusion; within = omega (arith, h.within, depth_ex a, has_levels r) }

pub all_kept_bounded : (k : ℕ) (r s a rest : Formula) (x : Framed) → s ≡ shift_of r → AreHanded k r (view.All a) → FrameAnswer (k + 1) s a (Some x) → rest ≡ view.All x.rest → IsBounded (view.Sep r rest)
all_kept_bounded k r s a rest x shifted h answer is =
    let inner = rest_in k r s a x shifted h.hypothesis (all_body k r a h) answer in
    let scoped : ScopedIn k rest = subst (λ (z : Formula). ScopedIn k z) (sym is) (quantified_scoped_in k (view.All x.rest) x.rest (inl refl) inner) in
    record { vars = k; scoped = sep_scoped_in k r rest h.hypothesis scoped; within = omega (arith, h.within, depth_sep r rest, ap depth_of is, depth_all x.rest, depth_all a, has_levels r, has_levels a, (part (k + 1) s a x answer).deep) }

pub all_gone_bounded : (k : ℕ) (r a rest : Formula) → AreHanded k r (view.All a) → is_truth rest ≡ true → IsBounded (view.Sep r rest)
all_gone_bounded k r a rest h gone =
    let is = truth_is rest gone in
    let scoped : ScopedIn k rest = subst (λ (z : Formula). ScopedIn k z) (sym is) (pure_scoped_in_from k True (true_scoped k)) in
    record { vars = k; scoped = sep_scoped_in k r rest h.hypothesis scoped; within = omega (arith, h.within, depth_sep r rest, ap depth_of is, depth_truth, depth_all a, has_levels r, has_levels a) }

pub ex_bounded : (k : ℕ) (r a : Formula) → AreHanded k r (view.Ex a) → IsBounded (view.Wand r (view.Ex a))
ex_bounded k r a h = record { vars = k; scoped = wand_scoped_in k r (view.Ex a) h.hypothesis h.conclusion; within = omega (arith, h.within, depth_wand r (view.Ex a), has_levels r, has_levels (view.Ex a)) }

shift_truth : shift_of truth ≡ truth
unfolding in_formula in_pure
shift_truth = refl

-- ---- premises

pub all_gone_premise : (k : ℕ) (r s a : Formula) (x : Framed) → s ≡ shift_of r → FrameAnswer (k + 1) s a (Some x) → is_truth x.rest ≡ true → conclusion x.proof ≡ entail (k + 1) (view.Sep (shift_of r) (shift_of x.rest)) a
all_gone_premise k r s a x shifted answer gone =
    let is = truth_is x.rest gone in
    let same : x.rest ≡ shift_of x.rest = is ∙ sym (ap shift_of is ∙ shift_truth) in
    (part (k + 1) s a x answer).proof.concludes ∙ ap (λ z. entail (k + 1) (view.Sep z x.rest) a) shifted ∙ ap (λ z. entail (k + 1) (view.Sep (shift_of r) z) a) same

pub all_kept_premise : (k : ℕ) (r s a rest : Formula) (x : Framed) (under : Tree) → s ≡ shift_of r → FrameAnswer (k + 1) s a (Some x) → rest ≡ view.All x.rest → Closes x.proof (entail (k + 1) (view.Sep s (shift_of (view.All x.rest))) a) 4 (deepest (s ∷ a ∷ x.rest ∷ []) [] + 2) (k + 1) under → conclusion under ≡ entail (k + 1) (view.Sep (shift_of r) (shift_of rest)) a
all_kept_premise k r s a rest x under shifted answer is closes =
    let p = (part (k + 1) s a x answer).proof in
    concluded 4 (deepest (s ∷ a ∷ x.rest ∷ []) [] + 2) (k + 1) (200 * nodes_of a) (max (depth_of s) (depth_of a) + 8) (k + 1 + depth_of a) (entail (k + 1) (view.Sep s (shift_of (view.All x.rest))) a) (entail (k + 1) (view.Sep s x.rest) a) x.proof under p closes ∙ ap (λ z. entail (k + 1) (view.Sep z (shift_of (view.All x.rest))) a) shifted ∙ ap (λ z. entail (k + 1) (view.Sep (shift_of r) (shift_of z)) a) (sym is)

pub ex_premise : (k : ℕ) (r s a : Formula) (x : Framed) (under : Tree) → s ≡ shift_of r → FrameAnswer (k + 1) s a (Some x) → Closes x.proof (entail (k + 1) x.rest (view.Wand s (shift_of (view.Ex a)))) 5 (deepest (s ∷ a ∷ x.rest ∷ []) [] + 2) (k + 1) under → conclusion under ≡ entail (k + 1) x.rest (view.Wand (shift_of r) (shift_of (view.Ex a)))
ex_premise k r s a x under shifted answer closes =
    let p = (part (k + 1) s a x answer).proof in
    concluded 5 (deepest (s ∷ a ∷ x.rest ∷ []) [] + 2) (k + 1) (200 * nodes_of a) (max (depth_of s) (depth_of a) + 8) (k + 1 + depth_of a) (entail (k + 1) x.rest (view.Wand s (shift_of (view.Ex a)))) (entail (k + 1) (view.Sep s x.rest) a) x.proof under p closes ∙ ap (λ z. entail (k + 1) x.rest (view.Wand z (shift_of (view.Ex a)))) shifted

inside_closes : (k : ℕ) (r s a : Formula) (x : Framed) (under inside : Tree) → Closes x.proof (entail (k + 1) x.rest (view.Wand s (shift_of (view.Ex a)))) 5 (deepest (s ∷ a ∷ x.rest ∷ []) [] + 2) (k + 1) under → Closes under (entail k (view.Ex x.rest) (view.Wand r (view.Ex a))) 1 (deepest (r ∷ x.rest ∷ a ∷ []) [] + 2) (k + 1) inside → Closes x.proof (entail k (view.Ex x.rest) (view.Wand r (view.Ex a))) 6 (max (deepest (s ∷ a ∷ x.rest ∷ []) [] + 2) (deepest (r ∷ x.rest ∷ a ∷ []) [] + 2)) (k + 1) inside
inside_closes k r s a x under inside first second = λ m b j le q. composed 5 (deepest (s ∷ a ∷ x.rest ∷ []) [] + 2) (k + 1) 1 (deepest (r ∷ x.rest ∷ a ∷ []) [] + 2) (k + 1) (entail (k + 1) x.rest (view.Wand s (shift_of (view.Ex a)))) (entail k (view.Ex x.rest) (view.Wand r (view.Ex a))) x.proof under inside first second m b j (omega (arith, le)) q

pub ex_kept_premise : (k : ℕ) (r s a : Formula) (x : Framed) (under inside : Tree) → FrameAnswer (k + 1) s a (Some x) → Closes x.proof (entail (k + 1) x.rest (view.Wand s (shift_of (view.Ex a)))) 5 (deepest (s ∷ a ∷ x.rest ∷ []) [] + 2) (k + 1) under → Closes under (entail k (view.Ex x.rest) (view.Wand r (view.Ex a))) 1 (deepest (r ∷ x.rest ∷ a ∷ []) [] + 2) (k + 1) inside → conclusion inside ≡ entail k (view.Ex x.rest) (view.Wand r (view.Ex a))
ex_kept_premise k r s a x under inside answer first second =
    let p = (part (k + 1) s a x answer).proof in
    concluded 6 (max (deepest (s ∷ a ∷ x.rest ∷ []) [] + 2) (deepest (r ∷ x.rest ∷ a ∷ []) [] + 2)) (k + 1) (200 * nodes_of a) (max (depth_of s) (depth_of a) + 8) (k + 1 + depth_of a) (entail k (view.Ex x.rest) (view.Wand r (view.Ex a))) (entail (k + 1) (view.Sep s x.rest) a) x.proof inside p (inside_closes k r s a x under inside first second)

pub ex_gone_premise : (k : ℕ) (r s a : Formula) (x : Framed) (under inside : Tree) → FrameAnswer (k + 1) s a (Some x) → is_truth x.rest ≡ true → Closes x.proof (entail (k + 1) x.rest (view.Wand s (shift_of (view.Ex a)))) 5 (deepest (s ∷ a ∷ x.rest ∷ []) [] + 2) (k + 1) under → Closes under (entail k (view.Ex x.rest) (view.Wand r (view.Ex a))) 1 (deepest (r ∷ x.rest ∷ a ∷ []) [] + 2) (k + 1) inside → conclusion inside ≡ entail k (view.Ex truth) (view.Wand r (view.Ex a))
ex_gone_premise k r s a x under inside answer gone first second = ex_kept_premise k r s a x under inside answer first second ∙ ap (λ z. entail k (view.Ex z) (view.Wand r (view.Ex a))) (truth_is x.rest gone)

-- ---- the answers

under_done : (node : Formula → Formula) (k n d w : ℕ) (r s a q h : Formula) (x f : Framed) → s ≡ shift_of r → FrameAnswer (k + 1) s a (Some x) → above node (frame s a) ≡ Some h → f.rest ≡ h → Closes x.proof (entail k (view.Sep r h) q) n d w f.proof → n ≤ 200 → w ≤ k + 1 → (depth_of x.rest ≤ max (depth_of a) 2 → d ≤ max (depth_of r) (depth_of q) + 8) → nodes_of q ≡ suc (nodes_of a) → depth_of q ≡ suc (depth_of a) → FrameAnswers k r q (above node (frame (shift_of r) a)) (Some f)
under_done node k n d w r s a q h x f shifted answer row rest closes hn hw hd nodes levels =
    let p = part (k + 1) s a x answer in
    let row1 : above node (frame (shift_of r) a) ≡ Some h = ap (λ z. above node (frame z a)) (sym shifted) ∙ row in
    frame_done k r q h (above node (frame (shift_of r) a)) f row1 rest (closed_frame (k + 1) k n d w s a x.rest r q h x.proof f.proof p.proof closes hn (hd p.deep) (omega (arith, hw, levels)) (omega (arith, nodes)) (omega (arith, levels)) (omega (arith, ap depth_of shifted, shift_deep r, levels, has_levels a)) (omega (arith, levels)))

pub under_none : (node : Formula → Formula) (k : ℕ) (r s a q : Formula) (x : Option Framed) → s ≡ shift_of r → FrameAnswer (k + 1) s a x → x ≡ None → FrameAnswers k r q (above node (frame (shift_of r) a)) None
under_none node k r s a q x shifted answer is = subst (λ (z : Formula). FrameAnswers k r q (above node (frame z a)) None) shifted (above_none_at node (k + 1) k r s a q (at (k + 1) s a x None is answer))

pub all_gone_done : (k : ℕ) (r s a : Formula) (x : Framed) (out : Tree) → s ≡ shift_of r → FrameAnswer (k + 1) s a (Some x) → is_truth x.rest ≡ true → Closes x.proof (entail k (view.Sep r x.rest) (view.All a)) 1 (deepest (r ∷ x.rest ∷ a ∷ []) [] + 1) (k + 1) out → FrameAnswers k r (view.All a) (above view.All (frame (shift_of r) a)) (Some (record { rest = x.rest; proof = out }))
all_gone_done k r s a x out shifted answer gone closes =
    let row = above_gone view.All (frame s a) x.rest (part (k + 1) s a x answer).row gone ∙ ap Some (sym (truth_is x.rest gone)) in
    under_done view.All k 1 (deepest (r ∷ x.rest ∷ a ∷ []) [] + 1) (k + 1) r s a (view.All a) x.rest x (record { rest = x.rest; proof = out }) shifted answer row refl closes (omega arith) (omega arith) (λ deep. omega (arith, deep, depth_all a, has_levels a)) (nodes_all a) (depth_all a)

pub all_kept_done : (k : ℕ) (r s a rest : Formula) (x : Framed) (under out : Tree) → s ≡ shift_of r → FrameAnswer (k + 1) s a (Some x) → is_truth x.rest ≡ false → rest ≡ view.All x.rest → Closes x.proof (entail (k + 1) (view.Sep s (shift_of (view.All x.rest))) a) 4 (deepest (s ∷ a ∷ x.rest ∷ []) [] + 2) (k + 1) under → Closes under (entail k (view.Sep r rest) (view.All a)) 1 (deepest (r ∷ rest ∷ a ∷ []) [] + 1) (k + 1) out → FrameAnswers k r (view.All a) (above view.All (frame (shift_of r) a)) (Some (record { rest = rest; proof = out }))
all_kept_done k r s a rest x under out shifted answer kept is first second =
    let row = above_kept view.All (frame s a) x.rest (part (k + 1) s a x answer).row kept ∙ ap Some (sym is) in
    let d : ℕ = max (deepest (s ∷ a ∷ x.rest ∷ []) [] + 2) (deepest (r ∷ rest ∷ a ∷ []) [] + 1) in
    let closes : Closes x.proof (entail k (view.Sep r rest) (view.All a)) 5 d (k + 1) out = λ m b j le q. composed 4 (deepest (s ∷ a ∷ x.rest ∷ []) [] + 2) (k + 1) 1 (deepest (r ∷ rest ∷ a ∷ []) [] + 1) (k + 1) (entail (k + 1) (view.Sep s (shift_of (view.All x.rest))) a) (entail k (view.Sep r rest) (view.All a)) x.proof under out first second m b j (omega (arith, le)) q in
    under_done view.All k 5 d (k + 1) r s a (view.All a) rest x (record { rest = rest; proof = out }) shifted answer row refl closes (omega arith) (omega arith) (λ deep. omega (arith, deep, depth_all a, has_levels a, ap depth_of is, depth_all x.rest, ap depth_of shifted, shift_deep r)) (nodes_all a) (depth_all a)

pub ex_gone_answer : (k : ℕ) (r s a : Formula) (x : Framed) (under inside out : Tree) → s ≡ shift_of r → FrameAnswer (k + 1) s a (Some x) → is_truth x.rest ≡ true → Closes x.proof (entail (k + 1) x.rest (view.Wand s (shift_of (view.Ex a)))) 5 (deepest (s ∷ a ∷ x.rest ∷ []) [] + 2) (k + 1) under → Closes under (entail k (view.Ex x.rest) (view.Wand r (view.Ex a))) 1 (deepest (r ∷ x.rest ∷ a ∷ []) [] + 2) (k + 1) inside → Closes inside (entail k (view.Sep r truth) (view.Ex a)) 7 (deepest (r ∷ a ∷ []) [] + 4) k out → FrameAnswers k r (view.Ex a) (above view.Ex (frame (shift_of r) a)) (Some (record { rest = x.rest; proof = out }))
ex_gone_answer k r s a x under inside out shifted answer gone first second third =
    let is = truth_is x.rest gone in
    let row = above_gone view.Ex (frame s a) x.rest (part (k + 1) s a x answer).row gone ∙ ap Some (sym is) in
    let c : ℕ = max (deepest (s ∷ a ∷ x.rest ∷ []) [] + 2) (deepest (r ∷ x.rest ∷ a ∷ []) [] + 2) in
    let d : ℕ = max c (deepest (r ∷ a ∷ []) [] + 4) in
    let third1 : Closes inside (entail k (view.Sep r x.rest) (view.Ex a)) 7 (deepest (r ∷ a ∷ []) [] + 4) k out = subst (λ (z : Formula). Closes inside (entail k (view.Sep r z) (view.Ex a)) 7 (deepest (r ∷ a ∷ []) [] + 4) k out) (sym is) third in
    let closes : Closes x.proof (entail k (view.Sep r x.rest) (view.Ex a)) 13 d (k + 1) out = λ m b j le q. composed 6 c (k + 1) 7 (deepest (r ∷ a ∷ []) [] + 4) k (entail k (view.Ex x.rest) (view.Wand r (view.Ex a))) (entail k (view.Sep r x.rest) (view.Ex a)) x.proof inside out (inside_closes k r s a x under inside first second) third1 m b j (omega (arith, le)) q in
    under_done view.Ex k 13 d (k + 1) r s a (view.Ex a) x.rest x (record { rest = x.rest; proof = out }) shifted answer row refl closes (omega arith) (omega arith) (λ deep. omega (arith, deep, depth_ex a, has_levels a, ap depth_of shifted, shift_deep r)) (nodes_ex a) (depth_ex a)

pub ex_kept_answer : (k : ℕ) (r s a rest : Formula) (x : Framed) (under inside out : Tree) → s ≡ shift_of r → FrameAnswer (k + 1) s a (Some x) → is_truth x.rest ≡ false → rest ≡ view.Ex x.rest → Closes x.proof (entail (k + 1) x.rest (view.Wand s (shift_of (view.Ex a)))) 5 (deepest (s ∷ a ∷ x.rest ∷ []) [] + 2) (k + 1) under → Closes under (entail k (view.Ex x.rest) (view.Wand r (view.Ex a))) 1 (deepest (r ∷ x.rest ∷ a ∷ []) [] + 2) (k + 1) inside → Closes inside (entail k (view.Sep r (view.Ex x.rest)) (view.Ex a)) 3 (deepest (r ∷ a ∷ x.rest ∷ []) [] + 2) k out → FrameAnswers k r (view.Ex a) (above view.Ex (frame (shift_of r) a)) (Some (record { rest = rest; proof = out }))
ex_kept_answer k r s a rest x under inside out shifted answer kept is first second third =
    let row = above_kept view.Ex (frame s a) x.rest (part (k + 1) s a x answer).row kept in
    let c : ℕ = max (deepest (s ∷ a ∷ x.rest ∷ []) [] + 2) (deepest (r ∷ x.rest ∷ a ∷ []) [] + 2) in
    let d : ℕ = max c (deepest (r ∷ a ∷ x.rest ∷ []) [] + 2) in
    let closes : Closes x.proof (entail k (view.Sep r (view.Ex x.rest)) (view.Ex a)) 9 d (k + 1) out = λ m b j le q. composed 6 c (k + 1) 3 (deepest (r ∷ a ∷ x.rest ∷ []) [] + 2) k (entail k (view.Ex x.rest) (view.Wand r (view.Ex a))) (entail k (view.Sep r (view.Ex x.rest)) (view.Ex a)) x.proof inside out (inside_closes k r s a x under inside first second) third m b j (omega (arith, le)) q in
    under_done view.Ex k 9 d (k + 1) r s a (view.Ex a) (view.Ex x.rest) x (record { rest = rest; proof = out }) shifted answer row is closes (omega arith) (omega arith) (λ deep. omega (arith, deep, depth_ex a, has_levels a, ap depth_of shifted, shift_deep r)) (nodes_ex a) (depth_ex a)
