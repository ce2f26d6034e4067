-- From a star to one of its parts, and what falsehood in hand answers.
use Rattle.std.proofs.Common.{◌≡◌, ℕ, zero, suc, ◌+◌, ◌*◌, ◌≤◌, max, true, false, List, [], ◌∷◌, length, refl, sym, ◌∙◌, ap, ap₂, subst, arith}
use Rattle.std.specs.Prelude.{Result, Err}
use Rattle.pm_logic.specs.declared.formula.Pure.TheVariants as pure
use Rattle.pm_logic.specs.declared.formula.Formula.{Formula}
use Rattle.pm_logic.specs.declared.formula.Formula.TheVariants.{Pure as Assert}
use Rattle.pm_logic.specs.declared.formula.Formula.TheViews as view
use Rattle.pm_logic.specs.Size.{depth_of}
use Rattle.pm_rules.specs.declared.pattern.Binary.TheVariants as binary
use Rattle.pm_rules.specs.declared.rules.Entail.{Entail}
use Rattle.pm_rules.proofs.Matched.{two_same}
use Rattle.pm_goal.specs.declared.work.Held.{Held}
use Rattle.pm_goal.specs.declared.work.Work.{Work}
use Rattle.pm_goal.specs.declared.refusal.Row.TheVariants.{NotFalsehood}
use Rattle.pm_goal.specs.declared.refusal.StepFault.{StepFault}
use Rattle.pm_goal.specs.declared.refusal.StepFault.TheVariants as fault
use Rattle.pm_goal.specs.Left.{star_onto, of_kind, left_of_work}
use Rattle.pm_proof.specs.Trees.{Tree, entail, conclusion}
use Rattle.pm_proof.specs.Known.{Proves, Extends, Every, ScopedWhere, FillExtends}
use Rattle.pm_proof.specs.declared.proof.Parts.{Parts}
use Rattle.pm_proof.proofs.Fills.{weaker, extends_weaker, extends_proves}
use Rattle.pm_schemes.specs.Sketches.{deepest}
use Rattle.pm_star.specs.Stars.{star, work_parts, part_at, without, in_front, room as star_room, Moves}
use Rattle.pm_star.specs.Chains.{ChainProves, across}
use Rattle.pm_star.proofs.Contexts.{work_star}
use Rattle.pm_star.proofs.Scoping.{depth_sep, front_scoped, part_deep}
use Rattle.pm_logic.specs.Scope.{Scoped}
use Rattle.pm_table.specs.declared.place.Place.{Place}
use Rattle.pm_table.specs.Outcomes.{closed, require_plain}
use Rattle.pm_table.specs.Limits.{limited, all_nodes, work_formulas}
use Rattle.pm_table.specs.Running.{rules_within}
use Rattle.pm_table.specs.Destructs as table
use Rattle.pm_action.specs.Meanings.{meaning, height, room, width}
use Rattle.pm_action.specs.Acting.{Answers, Ends, IsActed, IsLast, last_place, plainly}
use Rattle.pm_action.proofs.Heights.{star_height, concl_height, parts_nodes}
use Rattle.pm_action.proofs.Hands.{with_last_is, part_last, last_within}
use Rattle.pm_action.proofs.Moves.{few}
use Rattle.pm_hand.specs.Changed.{IsFirst, FromStar}
use Rattle.pm_hand.proofs.Relasts.{part_of_star}

-- ---- the first part of a star

pub first_done : (by step t : Tree) (e : Entail) (v : ℕ) (l a y : Formula) → conclusion by ≡ e → v ≡ e.vars → l ≡ e.left → e.right ≡ view.Sep a y
    → Proves Every (entail v l a) (entail v l (view.Sep a y) ∷ []) 2 (deepest (a ∷ l ∷ y ∷ []) [] + 1) v step → FillExtends step 0 by t → IsFirst by t
first_done by step t e v l a y is vars left right p fills k x1 a1 y1 at =
    let same : e ≡ entail k x1 (view.Sep a1 y1) = sym is ∙ at in
    let v_is : v ≡ k = vars ∙ ap (λ (z : Entail). z.vars) same in
    let l_is : l ≡ x1 = left ∙ ap (λ (z : Entail). z.left) same in
    let sides : view.Sep a y ≡ view.Sep a1 y1 = sym right ∙ ap (λ (z : Entail). z.right) same in
    let parts = two_same binary.Sep a y a1 y1 sides in
    let hole : entail v l (view.Sep a y) ≡ conclusion by = ap (λ (n : ℕ). entail n l (view.Sep a y)) v_is ∙ ap (λ (z : Formula). entail k z (view.Sep a y)) l_is ∙ ap (entail k x1) sides ∙ sym at in
    let q : Extends by (entail v l a) 2 (deepest (a ∷ l ∷ y ∷ []) [] + 1) v t = fills (entail v l a) 2 (deepest (a ∷ l ∷ y ∷ []) [] + 1) v (subst (λ (h : Entail). Proves Every (entail v l a) (h ∷ []) 2 (deepest (a ∷ l ∷ y ∷ []) [] + 1) v step) hole p) in
    extends_weaker by t (entail k x1 a1) 2 (deepest (a1 ∷ x1 ∷ y1 ∷ []) [] + 1) k 2 (max (depth_of x1) (max (depth_of a1) (depth_of y1)) + 8) k (omega arith) (omega arith) (omega arith)
    (subst (λ (z : Formula). Extends by (entail k x1 a1) 2 (deepest (a1 ∷ x1 ∷ z ∷ []) [] + 1) k t) parts.1
    (subst (λ (z : Formula). Extends by (entail k x1 z) 2 (deepest (z ∷ x1 ∷ y ∷ []) [] + 1) k t) parts.0
    (subst (λ (z : Formula). Extends by (entail k z a) 2 (deepest (a ∷ z ∷ y ∷ []) [] + 1) k t) l_is
    (subst (λ (n : ℕ). Extends by (entail n l a) 2 (deepest (a ∷ l ∷ y ∷ []) [] + 1) n t) v_is q))))

-- ---- the last part

-- a star with a part less is no deeper
less_deep : (fs : List Formula) (i : ℕ) → depth_of (star (without fs i)) ≤ depth_of (star fs)
unfolding star_onto
less_deep [] zero = omega arith
less_deep [] (suc i) = omega arith
less_deep (f ∷ fs) zero = omega (arith, depth_sep f (star fs))
less_deep (f ∷ fs) (suc i) = omega (arith, less_deep fs i, depth_sep f (star fs), depth_sep f (star (without fs i)))

star_front : (fs : List Formula) (i : ℕ) → star (in_front fs i) ≡ view.Sep (part_at fs i) (star (without fs i))
unfolding star_onto
star_front fs i = refl

-- what the call for the first part asks
pub is_star : (k : ℕ) (x : Formula) (fs : List Formula) (i : ℕ) (by : Tree) (n d v : ℕ) → Proves Every (entail k x (star (in_front fs i))) [] n d v by → (l : Formula) × (a : Formula) × (y : Formula) × (conclusion by ≡ entail (conclusion by).vars l (view.Sep a y))
is_star k x fs i by n d v p = (x, part_at fs i, star (without fs i), p.concludes ∙ ap₂ (λ j r. entail j x r) (sym (ap (λ (e : Entail). e.vars) p.concludes)) (star_front fs i))

pub reaches_last : (w : Work) (l : Held) (place : ℕ) (by p : Tree) → IsLast w l → place ≡ last_place w
    → Moves (length w.goal.vars) (length (work_parts w)) (left_of_work w) (star (in_front (work_parts w) place)) by → IsFirst by p
    → FromStar w (of_kind l.kind l.formula) p
reaches_last w l place by p is at moves first =
    let k = length w.goal.vars in
    let fs = work_parts w in
    let i = last_place w in
    let x = left_of_work w in
    let a = part_at fs i in
    let y = star (without fs i) in
    let n = 100 * length fs + 100 in
    let d = height w + 12 in
    let whole : depth_of (star fs) ≤ height w + 1 = subst (λ f. depth_of f ≤ height w + 1) (sym (work_star w)) (star_height w) in
    let deep_a : suc (depth_of a) ≤ depth_of (star fs) = part_deep fs i (last_within w l is) in
    let deep_y : depth_of y ≤ depth_of (star fs) = less_deep fs i in
    let front : star (in_front fs place) ≡ view.Sep a y = ap (λ n. star (in_front fs n)) at ∙ star_front fs i in
    let m : Moves k (length fs) x (view.Sep a y) by = subst (λ r. Moves k (length fs) x r by) front moves in
    let near : star_room x (view.Sep a y) ≤ d = omega (arith, star_height w, whole, deep_a, deep_y, depth_sep a y) in
    let by1 : Proves Every (entail k x (view.Sep a y)) [] n d k by = weaker Every (entail k x (view.Sep a y)) [] (100 * (length fs + 1)) (star_room x (view.Sep a y)) k n d k by (omega arith) near (omega arith) m in
    let ext : Extends by (entail k x a) 2 d k p = extends_weaker by p (entail k x a) 2 (max (depth_of x) (max (depth_of a) (depth_of y)) + 8) k 2 d k (omega arith) (omega (arith, star_height w, whole, deep_a, deep_y)) (omega arith) (first k x a y m.concludes) in
    let scope : ScopedWhere (entail k x a) [] (entail k x (view.Sep a y)) = λ preds e hs. (e.0, subst (Scoped preds k) (star_front fs i) (front_scoped preds k fs i (subst (Scoped preds k) (sym (work_star w)) e.0))) in
    let all : Proves Every (entail k x a) [] (n + 2) d k p = extends_proves Every by p (entail k x (view.Sep a y)) (entail k x a) [] n 2 d k by1 ext scope in
    subst (λ f. FromStar w f p) (part_last w l is) (weaker Every (entail k x a) [] (n + 2) d k (100 * length fs + 102) d k p (omega arith) (omega arith) (omega arith) all)

-- ---- the end

-- from a part to the conclusion
pub closes : (w : Work) (l : Held) (reached rest p : Tree) (n d : ℕ) → IsLast w l → n ≤ 100 → d ≤ height w + 12
    → FromStar w (of_kind l.kind l.formula) reached
    → Proves Every (entail (length w.goal.vars) (of_kind l.kind l.formula) w.goal.concl) [] n d (length w.goal.vars) rest
    → ChainProves reached rest p → IsActed (all_nodes (work_formulas w)) w [] p
closes w l reached rest p n d is few_rules low a b chain =
    let k = length w.goal.vars in
    let x = left_of_work w in
    let f = of_kind l.kind l.formula in
    let s = all_nodes (work_formulas w) in
    let n1 = 100 * length (work_parts w) + 102 in
    let d1 = height w + 12 in
    let a1 : Proves Every (conclusion reached) [] n1 d1 k reached = subst (λ e. Proves Every e [] n1 d1 k reached) (sym a.concludes) a in
    let b0 : Proves Every (entail k f w.goal.concl) [] n d1 k rest = weaker Every (entail k f w.goal.concl) [] n d k n d1 k rest (omega arith) low (omega arith) b in
    let b1 : Proves Every (conclusion rest) [] n d1 k rest = subst (λ e. Proves Every e [] n d1 k rest) (sym b.concludes) b0 in
    let over : across reached rest ≡ meaning w = ap₂ (λ (e g : Entail). entail e.vars e.left g.right) a.concludes b.concludes in
    let scope : ScopedWhere (across reached rest) [] (conclusion reached) =
    subst (λ e. ScopedWhere e [] (conclusion reached)) (sym over) (subst (λ e. ScopedWhere (meaning w) [] e) (sym a.concludes)
    (λ preds e hs. (e.0, subst (Scoped preds k) (part_last w l is) (part_of_star preds k w (last_place w) e.0)))) in
    let all : Proves Every (across reached rest) [] (n1 + n + 1) d1 k p = chain Every [] [] n1 n d1 k a1 b1 scope in
    weaker Every (meaning w) [] (n1 + n + 1) d1 k (rules_within s) (room w []) (width w) p (few s (n1 + n + 1) (omega (arith, few_rules, parts_nodes w))) (omega arith) (omega arith)
    (subst (λ e. Proves Every e [] (n1 + n + 1) d1 k p) over all)

-- the proof from falsehood, as what is last in hand
pub absurd_last : (w : Work) (l : Held) (rest : Tree) → l.formula ≡ Assert pure.False
    → Proves Every (entail (length w.goal.vars) (of_kind l.kind (Assert pure.False)) w.goal.concl) [] 3 (deepest (w.goal.concl ∷ []) [] + 3) (length w.goal.vars) rest
    → Proves Every (entail (length w.goal.vars) (of_kind l.kind l.formula) w.goal.concl) [] 3 (deepest (w.goal.concl ∷ []) [] + 3) (length w.goal.vars) rest
absurd_last w l rest e p = subst (λ f. Proves Every (entail (length w.goal.vars) (of_kind l.kind f) w.goal.concl) [] 3 (deepest (w.goal.concl ∷ []) [] + 3) (length w.goal.vars) rest) (sym e) p

pub absurd_closes : (w : Work) (l : Held) (v : ℕ) (reached rest p : Tree) → IsLast w l → l.formula ≡ Assert pure.False → v ≡ length w.goal.vars
    → FromStar w (of_kind l.kind l.formula) reached
    → Proves Every (entail v (of_kind l.kind (Assert pure.False)) w.goal.concl) [] 3 (deepest (w.goal.concl ∷ []) [] + 3) v rest
    → ChainProves reached rest p → IsActed (all_nodes (work_formulas w)) w [] p
absurd_closes w l v reached rest p is e vars a b chain =
    let b1 = subst (λ n. Proves Every (entail n (of_kind l.kind (Assert pure.False)) w.goal.concl) [] 3 (deepest (w.goal.concl ∷ []) [] + 3) n rest) vars b in
    closes w l reached rest p 3 (deepest (w.goal.concl ∷ []) [] + 3) is (omega arith) (omega (arith, concl_height w)) a (absurd_last w l rest e b1) chain

absurd_row : (w : Work) (l : Held) → IsLast w l → table.absurd_held w ≡ require_plain (table.is_falsehood l.formula) NotFalsehood closed
absurd_row w l is = with_last_is w (λ hand. require_plain (table.is_falsehood hand.last.formula) NotFalsehood closed) l is

pub absurd_refused : (w : Work) (l : Held) (f : StepFault) → IsLast w l → table.is_falsehood l.formula ≡ false → f ≡ fault.Refused (plainly NotFalsehood) → Answers (all_nodes (work_formulas w)) w (limited (table.absurd_held w)) (Err f)
absurd_refused w l f is not e =
    subst (λ o. Answers (all_nodes (work_formulas w)) w (limited o) (Err f)) (ap (λ b. require_plain b NotFalsehood closed) (sym not) ∙ sym (absurd_row w l is)) (rw e refl)

pub absurd_given : (w : Work) (l : Held) (p : Tree) (r : Result (Parts Place) StepFault) → IsLast w l → table.is_falsehood l.formula ≡ true → IsActed (all_nodes (work_formulas w)) w [] p → Ends [] p r → Answers (all_nodes (work_formulas w)) w (limited (table.absurd_held w)) r
absurd_given w l p r is holds acted ends =
    subst (λ o. Answers (all_nodes (work_formulas w)) w (limited o) r) (ap (λ b. require_plain b NotFalsehood closed) (sym holds) ∙ sym (absurd_row w l is)) (ends (all_nodes (work_formulas w)) w acted)

-- the test
pub is_false : (f : Formula) → table.is_falsehood f ≡ true → f ≡ Assert pure.False
is_false (Assert pure.False) e = refl
is_false _ e = absurd cc
