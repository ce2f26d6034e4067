-- What framing under a binder gives.
use Rattle.std.proofs.Common.{ℕ, suc, ◌+◌, ◌*◌, ◌≡◌, ◌≤◌, ◌<◌, max, true, false, List, [], ◌∷◌, Option, None, Some, IfSome, inl, inr, refl, sym, ap, subst, ◌∙◌, arith, add-one, slice_get, pos}
use Rattle.std.specs.List.{AllByRecursion}
use denote.Hole.Carrier as carrier
use Rattle.pm_logic.specs.declared.formula.Term.TheVariants.{Lit, Var}
use Rattle.pm_logic.specs.declared.formula.Pure.TheVariants.{True}
use Rattle.pm_logic.specs.declared.formula.Formula.{Formula}
use Rattle.pm_logic.specs.declared.formula.Formula.TheViews as view
use Rattle.pm_logic.specs.declared.formula.Formula.TheBlock as block
use Rattle.pm_logic.specs.declared.formula.Preds.{Preds}
use Rattle.pm_logic.specs.declared.formula.TheConstants.{BOUND}
use Rattle.pm_logic.specs.Bounds.{IsBounded}
use Rattle.pm_logic.specs.Scope.{ScopedIn, Scoped}
use Rattle.pm_logic.specs.Size.{depth_of, nodes_of}
use Rattle.pm_logic.specs.Substitution.{one_up, first, in_pure, in_formula, shift_of, opened_of}
use Rattle.pm_logic.proofs.Scopes.{scoped_in_quantified, quantified_scoped_in, scoped_in_sep, sep_scoped_in, scoped_in_wand, wand_scoped_in, pure_scoped_in_from, true_scoped, fit_quantified, fit_sep, sep_fit, fit_wand, var_scoped_from}
use Rattle.pm_logic.proofs.Kept.{in_formula_scoped, first_reaches, in_formula_fits}
use Rattle.pm_rules.specs.declared.rules.Entail.{Entail}
use Rattle.pm_proof.specs.Trees.{Tree, entail, conclusion, holes_of, side_depth}
use Rattle.pm_proof.specs.Valid.{EntailScoped}
use Rattle.pm_proof.specs.Known.{Proves, Every, ScopedWhere, FillProves}
use Rattle.pm_proof.proofs.Fills.{weaker}
use Rattle.pm_schemes.specs.Sketches.{deepest}
use Rattle.pm_classes.specs.Closing.{Closes, ClosesBoth}
use Rattle.pm_classes.specs.Entries.{IsHanded}
use Rattle.pm_classes.proofs.Bound.{shift_deep, shifted_in, Generalized, Eliminated}
use Rattle.pm_classes.proofs.Closed.{hole_is, closes_where}
use Rattle.pm_classes.proofs.Known.{own}
use Rattle.pm_classes.proofs.Sizes.{has_levels, depth_sep, depth_wand, depth_all, depth_ex, nodes_all, nodes_ex}
use Rattle.pm_classes.proofs.Undone.{shifted_body, body_opened, shift_all, shift_ex}
use Rattle.pm_table.specs.Basic.{is_truth}
use Rattle.pm_table.specs.Framing.{truth, above, frame}
use Rattle.pm_frame.specs.declared.framed.Framed.{Framed}
use Rattle.pm_frame.specs.Frames.{AreHanded, FrameProof, FrameAnswer, FrameAnswers}
use Rattle.pm_frame.proofs.Parts.{IsPart, part, truth_is, depth_truth, frame_done, closed_frame, above_kept, above_gone, above_none}
use Rattle.pm_frame.proofs.RestScoped.{frame_in}

-- ---- shifted nodes

pub shift_sep : (a b : Formula) → shift_of (view.Sep a b) ≡ view.Sep (shift_of a) (shift_of b)
unfolding block.shape-the_row-Formula-0 block.hidden-the_row-Formula-0 carrier.hidden in_formula
shift_sep a b = refl

pub shift_wand : (a b : Formula) → shift_of (view.Wand a b) ≡ view.Wand (shift_of a) (shift_of b)
unfolding block.shape-the_row-Formula-0 block.hidden-the_row-Formula-0 carrier.hidden in_formula
shift_wand a b = refl

-- ---- one proof around another

pub composed : (n d w m c v : ℕ) (e f : Entail) (x t u : Tree) → Closes x e n d w t → Closes t f m c v u → Closes x f (m + n) (max d c) (max w v) u
composed n d w m c v e f x t u inner outer = λ i b k le q.
    let p = inner i b k (omega (arith, le)) q in
    let r = outer (n + i) (max b d) k (omega (arith, le)) (own k (n + i) (max b d) e t p) in
    weaker Every f [] (m + (n + i)) (max (max b d) c) k (m + n + i) (max b (max d c)) k u (omega arith) (omega arith) (omega arith) r

pub known_first : (k n d m c n1 d1 : ℕ) (e h : Entail) (x y t : Tree) → Proves Every h [] m c k x → ClosesBoth x y e n d k t → n + m ≤ n1 → max d c ≤ d1 → Closes y e n1 d1 k t
known_first k n d m c n1 d1 e h x y t p closes hn hd = λ i b j le q.
    let p1 = weaker Every (conclusion x) [] m c k m (max b c) j x (omega arith) (omega arith) le (own k m c h x p) in
    let q1 = weaker Every (conclusion y) [] i b j i (max b c) j y (omega arith) (omega arith) (omega arith) q in
    weaker Every e [] (n + m + i) (max (max b c) d) j (n1 + i) (max b d1) j t (omega (arith, hn)) (omega (arith, hd)) (omega arith) (closes m i (max b c) j le p1 q1)

pub known_second : (k n d m c n1 d1 : ℕ) (e h : Entail) (x y t : Tree) → Proves Every h [] m c k y → ClosesBoth x y e n d k t → n + m ≤ n1 → max d c ≤ d1 → Closes x e n1 d1 k t
known_second k n d m c n1 d1 e h x y t p closes hn hd = λ i b j le q.
    let p1 = weaker Every (conclusion y) [] m c k m (max b c) j y (omega arith) (omega arith) le (own k m c h y p) in
    let q1 = weaker Every (conclusion x) [] i b j i (max b c) j x (omega arith) (omega arith) (omega arith) q in
    weaker Every e [] (n + i + m) (max (max b c) d) j (n1 + i) (max b d1) j t (omega (arith, hn)) (omega (arith, hd)) (omega arith) (closes i m (max b c) j le q1 p1)

-- what is proved, once what is inside is
pub concluded : (n d w m b k : ℕ) (e h : Entail) (x t : Tree) → Proves Every h [] m b k x → Closes x e n d w t → conclusion t ≡ e
concluded n d w m b k e h x t p closes =
    let q = weaker Every (conclusion x) [] m b k m b (max k w) x (omega arith) (omega arith) (omega arith) (own k m b h x p) in
    (closes m b (max k w) (omega arith) q).concludes

-- ---- the rules of quantifiers around a proof

shifted : (preds : Preds) (k : ℕ) (f : Formula) → Scoped preds k f → Scoped preds (k + 1) (shift_of f)
shifted preds k f s = record { indices = rw add-one (shifted_in k f s.indices); calls = in_formula_fits preds.list one_up f s.calls }

generalized_scoped : (k : ℕ) (p b : Formula) → ScopedWhere (entail k p (view.All b)) [] (entail (k + 1) (shift_of p) b)
generalized_scoped k p b = λ preds s none. (shifted preds k p s.0, record { indices = scoped_in_quantified k (view.All b) b (inl refl) s.1.indices; calls = fit_quantified preds.list (view.All b) b (inl refl) s.1.calls })

eliminated_scoped : (k : ℕ) (b q : Formula) → ScopedWhere (entail k (view.Ex b) q) [] (entail (k + 1) b (shift_of q))
eliminated_scoped k b q = λ preds s none. (record { indices = scoped_in_quantified k (view.Ex b) b (inr refl) s.0.indices; calls = fit_quantified preds.list (view.Ex b) b (inr refl) s.0.calls }, shifted preds k q s.1)

-- the premise, as it is handed in
premise_all : (k : ℕ) (left r g a : Formula) (inner : Tree) → left ≡ view.Sep r g → conclusion inner ≡ entail (k + 1) (view.Sep (shift_of r) (shift_of g)) a → entail (k + 1) (shift_of left) a ≡ conclusion inner
premise_all k left r g a inner is concludes = ap (λ z. entail (k + 1) (shift_of z) a) is ∙ ap (λ z. entail (k + 1) z a) (shift_sep r g) ∙ sym concludes

premise_ex : (k : ℕ) (right r g a : Formula) (inner : Tree) → right ≡ view.Wand r (view.Ex a) → conclusion inner ≡ entail (k + 1) g (view.Wand (shift_of r) (shift_of (view.Ex a))) → entail (k + 1) g (shift_of right) ≡ conclusion inner
premise_ex k right r g a inner is concludes = ap (λ z. entail (k + 1) g (shift_of z)) is ∙ ap (entail (k + 1) g) (shift_wand r (view.Ex a)) ∙ sym concludes

pub all_hole : (k : ℕ) (left r g a : Formula) (outer inner : Tree) → left ≡ view.Sep r g → Generalized k left a outer → conclusion inner ≡ entail (k + 1) (view.Sep (shift_of r) (shift_of g)) a → slice_get (holes_of outer) 0 ≡ Some (conclusion inner)
all_hole k left r g a outer inner is p concludes = hole_is (entail k left (view.All a)) (conclusion inner) [] (entail (k + 1) (shift_of left) a ∷ []) 1 (max (side_depth (entail k left (view.All a))) (side_depth (entail (k + 1) (shift_of left) a))) (k + 1) outer p (ap (λ z. z ∷ []) (premise_all k left r g a inner is concludes))

pub ex_hole : (k : ℕ) (right r g a : Formula) (outer inner : Tree) → right ≡ view.Wand r (view.Ex a) → Eliminated k g right outer → conclusion inner ≡ entail (k + 1) g (view.Wand (shift_of r) (shift_of (view.Ex a))) → slice_get (holes_of outer) 0 ≡ Some (conclusion inner)
ex_hole k right r g a outer inner is p concludes = hole_is (entail k (view.Ex g) right) (conclusion inner) [] (entail (k + 1) g (shift_of right) ∷ []) 1 (max (side_depth (entail k (view.Ex g) right)) (side_depth (entail (k + 1) g (shift_of right)))) (k + 1) outer p (ap (λ z. z ∷ []) (premise_ex k right r g a inner is concludes))

closes_weaker : (n d w d1 : ℕ) (e : Entail) (x t : Tree) → Closes x e n d w t → d ≤ d1 → Closes x e n d1 w t
closes_weaker n d w d1 e x t closes hd = λ i b k le q. weaker Every e [] (n + i) (max b d) k (n + i) (max b d1) k t (omega arith) (omega (arith, hd)) (omega arith) (closes i b k le q)

pub all_closes : (k : ℕ) (left r g a : Formula) (outer inner out : Tree) → left ≡ view.Sep r g → Generalized k left a outer → conclusion inner ≡ entail (k + 1) (view.Sep (shift_of r) (shift_of g)) a → FillProves outer 0 inner out → Closes inner (entail k (view.Sep r g) (view.All a)) 1 (deepest (r ∷ g ∷ a ∷ []) [] + 1) (k + 1) out
all_closes k left r g a outer inner out is p concludes f =
    let e : Entail = entail k left (view.All a) in
    let h : Entail = entail (k + 1) (shift_of left) a in
    let at = premise_all k left r g a inner is concludes in
    let wants : ScopedWhere e [] (conclusion inner) = subst (λ (z : Entail). ScopedWhere e [] z) at (generalized_scoped k left a) in
    let closes = closes_where (k + 1) 1 (max (side_depth e) (side_depth h)) e (conclusion inner) (h ∷ []) outer inner out (ap (λ z. z ∷ []) at) wants p f in
    let deep = ap depth_of is in
    let made : Closes inner e 1 (deepest (r ∷ g ∷ a ∷ []) [] + 1) (k + 1) out = closes_weaker 1 (max (side_depth e) (side_depth h)) (k + 1) (deepest (r ∷ g ∷ a ∷ []) [] + 1) e inner out closes (omega (arith, deep, depth_sep r g, depth_all a, shift_deep left)) in
    subst (λ (z : Formula). Closes inner (entail k z (view.All a)) 1 (deepest (r ∷ g ∷ a ∷ []) [] + 1) (k + 1) out) is made

pub ex_closes : (k : ℕ) (right r g a : Formula) (outer inner out : Tree) → right ≡ view.Wand r (view.Ex a) → Eliminated k g right outer → conclusion inner ≡ entail (k + 1) g (view.Wand (shift_of r) (shift_of (view.Ex a))) → FillProves outer 0 inner out → Closes inner (entail k (view.Ex g) (view.Wand r (view.Ex a))) 1 (deepest (r ∷ g ∷ a ∷ []) [] + 2) (k + 1) out
ex_closes k right r g a outer inner out is p concludes f =
    let e : Entail = entail k (view.Ex g) right in
    let h : Entail = entail (k + 1) g (shift_of right) in
    let at = premise_ex k right r g a inner is concludes in
    let wants : ScopedWhere e [] (conclusion inner) = subst (λ (z : Entail). ScopedWhere e [] z) at (eliminated_scoped k g right) in
    let closes = closes_where (k + 1) 1 (max (side_depth e) (side_depth h)) e (conclusion inner) (h ∷ []) outer inner out (ap (λ z. z ∷ []) at) wants p f in
    let deep = ap depth_of is in
    let made : Closes inner e 1 (deepest (r ∷ g ∷ a ∷ []) [] + 2) (k + 1) out = closes_weaker 1 (max (side_depth e) (side_depth h)) (k + 1) (deepest (r ∷ g ∷ a ∷ []) [] + 2) e inner out closes (omega (arith, deep, depth_wand r (view.Ex a), depth_ex a, depth_ex g, shift_deep right)) in
    subst (λ (z : Formula). Closes inner (entail k (view.Ex g) z) 1 (deepest (r ∷ g ∷ a ∷ []) [] + 2) (k + 1) out) is made

-- ---- a body is scoped where its shifted quantifier is

opened_scoped : (preds : Preds) (k : ℕ) (x : Formula) → 0 < k → Scoped preds (k + 1) (shifted_body x) → Scoped preds k x
opened_scoped preds k x some s =
    let e : k + 1 ≡ suc k = omega arith in
    let scoped : ScopedIn k (opened_of (shifted_body x) (Var 0)) = in_formula_scoped (suc k) k (first (Var 0)) (first_reaches k (Var 0) (var_scoped_from k 0 some)) (shifted_body x) (subst (λ (n : ℕ). ScopedIn n (shifted_body x)) e s.indices) in
    subst (λ (z : Formula). Scoped preds k z) (body_opened x) (record { indices = scoped; calls = in_formula_fits preds.list (first (Var 0)) (shifted_body x) s.calls })

all_body_scoped : (preds : Preds) (k : ℕ) (q x : Formula) → 0 < k → q ≡ shift_of (view.All x) → Scoped preds k q → Scoped preds k x
all_body_scoped preds k q x some is s =
    let t : Scoped preds k (view.All (shifted_body x)) = subst (λ (z : Formula). Scoped preds k z) (is ∙ shift_all x) s in
    opened_scoped preds k x some (record { indices = scoped_in_quantified k (view.All (shifted_body x)) (shifted_body x) (inl refl) t.indices; calls = fit_quantified preds.list (view.All (shifted_body x)) (shifted_body x) (inl refl) t.calls })

ex_body_scoped : (preds : Preds) (k : ℕ) (q x : Formula) → 0 < k → q ≡ shift_of (view.Ex x) → Scoped preds k q → Scoped preds k x
ex_body_scoped preds k q x some is s =
    let t : Scoped preds k (view.Ex (shifted_body x)) = subst (λ (z : Formula). Scoped preds k z) (is ∙ shift_ex x) s in
    opened_scoped preds k x some (record { indices = scoped_in_quantified k (view.Ex (shifted_body x)) (shifted_body x) (inr refl) t.indices; calls = fit_quantified preds.list (view.Ex (shifted_body x)) (shifted_body x) (inr refl) t.calls })

sep_parts : (preds : Preds) (k : ℕ) (a b : Formula) → Scoped preds k (view.Sep a b) → Scoped preds k a × Scoped preds k b
sep_parts preds k a b s =
    let i = scoped_in_sep k a b s.indices in
    let c = fit_sep preds.list a b s.calls in
    (record { indices = i.0; calls = c.0 }, record { indices = i.1; calls = c.1 })

sep_whole : (preds : Preds) (k : ℕ) (a b : Formula) → Scoped preds k a → Scoped preds k b → Scoped preds k (view.Sep a b)
sep_whole preds k a b s t = record { indices = sep_scoped_in k a b s.indices t.indices; calls = sep_fit preds.list a b s.calls t.calls }

wand_parts : (preds : Preds) (k : ℕ) (a b : Formula) → Scoped preds k (view.Wand a b) → Scoped preds k a × Scoped preds k b
wand_parts preds k a b s =
    let i = scoped_in_wand k a b s.indices in
    let c = fit_wand preds.list a b s.calls in
    (record { indices = i.0; calls = c.0 }, record { indices = i.1; calls = c.1 })

pub before_scoped : (k : ℕ) (s a q x : Formula) (first second : Tree) → 0 < k → q ≡ shift_of (view.All x) → conclusion first ≡ entail k q x → conclusion second ≡ entail k (view.Sep s x) a → (preds : Preds) → EntailScoped preds (entail k (view.Sep s q) a) → AllByRecursion (EntailScoped preds) (conclusion first ∷ conclusion second ∷ [])
before_scoped k s a q x first second some is f g preds h =
    let p = sep_parts preds k s q h.0 in
    let body = all_body_scoped preds k q x some is p.1 in
    (subst (EntailScoped preds) (sym f) (p.1, body), (subst (EntailScoped preds) (sym g) (sep_whole preds k s x p.0 body, h.1), tt))

pub after_scoped : (k : ℕ) (s a q x : Formula) (first second : Tree) → 0 < k → q ≡ shift_of (view.Ex a) → conclusion first ≡ entail k (view.Sep s x) a → conclusion second ≡ entail k a q → (preds : Preds) → EntailScoped preds (entail k x (view.Wand s q)) → AllByRecursion (EntailScoped preds) (conclusion first ∷ conclusion second ∷ [])
after_scoped k s a q x first second some is f g preds h =
    let p = wand_parts preds k s q h.1 in
    let body = ex_body_scoped preds k q a some is p.1 in
    (subst (EntailScoped preds) (sym f) (sep_whole preds k s x p.0 h.0, body), (subst (EntailScoped preds) (sym g) (body, p.1), tt))

-- ---- under the binder

pub under_all_done : (k : ℕ) (s g a q : Formula) (opened inner out : Tree) → q ≡ shift_of (view.All g) → Proves Every (entail k (shift_of (view.All g)) g) [] 1 (depth_of g + 1) k opened → ClosesBoth opened inner (entail k (view.Sep s q) a) 3 (deepest (s ∷ a ∷ q ∷ g ∷ []) [] + 1) k out → Closes inner (entail k (view.Sep s (shift_of (view.All g))) a) 4 (deepest (s ∷ a ∷ g ∷ []) [] + 2) k out
under_all_done k s g a q opened inner out is p closes =
    let c : Closes inner (entail k (view.Sep s q) a) 4 (deepest (s ∷ a ∷ g ∷ []) [] + 2) k out = known_first k 3 (deepest (s ∷ a ∷ q ∷ g ∷ []) [] + 1) 1 (depth_of g + 1) 4 (deepest (s ∷ a ∷ g ∷ []) [] + 2) (entail k (view.Sep s q) a) (entail k (shift_of (view.All g)) g) opened inner out p closes (omega arith) (omega (arith, ap depth_of is, shift_deep (view.All g), depth_all g)) in
    subst (λ (z : Formula). Closes inner (entail k (view.Sep s z) a) 4 (deepest (s ∷ a ∷ g ∷ []) [] + 2) k out) is c

pub under_ex_done : (k : ℕ) (s g a q : Formula) (opened inner out : Tree) → q ≡ shift_of (view.Ex a) → Proves Every (entail k a (shift_of (view.Ex a))) [] 1 (depth_of a + 1) k opened → ClosesBoth inner opened (entail k g (view.Wand s q)) 4 (deepest (s ∷ a ∷ q ∷ g ∷ []) [] + 1) k out → Closes inner (entail k g (view.Wand s (shift_of (view.Ex a)))) 5 (deepest (s ∷ a ∷ g ∷ []) [] + 2) k out
under_ex_done k s g a q opened inner out is p closes =
    let c : Closes inner (entail k g (view.Wand s q)) 5 (deepest (s ∷ a ∷ g ∷ []) [] + 2) k out = known_second k 4 (deepest (s ∷ a ∷ q ∷ g ∷ []) [] + 1) 1 (depth_of a + 1) 5 (deepest (s ∷ a ∷ g ∷ []) [] + 2) (entail k g (view.Wand s q)) (entail k a (shift_of (view.Ex a))) inner opened out p closes (omega arith) (omega (arith, ap depth_of is, shift_deep (view.Ex a), depth_ex a)) in
    subst (λ (z : Formula). Closes inner (entail k g (view.Wand s z)) 5 (deepest (s ∷ a ∷ g ∷ []) [] + 2) k out) is c

pub opened_truth : (k : ℕ) (t : Tree) → Proves Every (entail k (opened_of truth (Lit (pos 0))) (view.Ex truth)) [] 1 (side_depth (entail k (opened_of truth (Lit (pos 0))) (view.Ex truth))) k t → Proves Every (entail k truth (view.Ex truth)) [] 1 3 k t
unfolding in_formula in_pure
opened_truth k t p = weaker Every (entail k truth (view.Ex truth)) [] 1 (side_depth (entail k truth (view.Ex truth))) k 1 3 k t (omega arith) (omega (arith, depth_truth, depth_ex truth)) (omega arith) p
