-- A star of what may be used any number of times, under a box.
use Rattle.std.proofs.Common.{◌≡◌, ℕ, zero, suc, ◌+◌, ◌-◌, ◌*◌, ◌≤◌, ◌<◌, List, [], ◌∷◌, ◌++◌, length, drop, get_or, refl, sym, ap, subst, ◌∙◌, arith}
use Rattle.std.proofs.lemmas.List.{get_or_default}
use Rattle.pm_logic.specs.declared.formula.Pure.{Pure}
use Rattle.pm_logic.specs.declared.formula.Formula.{Formula}
use Rattle.pm_logic.specs.declared.formula.Formula.TheVariants.{Pure as Assert}
use Rattle.pm_logic.specs.declared.formula.Formula.TheViews as view
use Rattle.pm_logic.specs.declared.formula.Pure.TheVariants as pure
use Rattle.pm_logic.proofs.Sizes.{depth_pure}
use Rattle.pm_goal.specs.Left.{star_onto}
use Rattle.pm_rules.specs.declared.rules.Entail.{Entail}
use Rattle.pm_proof.specs.Trees.{Tree, entail, conclusion}
use Rattle.pm_proof.specs.Valid.{EntailScoped}
use Rattle.pm_proof.specs.Known.{Proves, Every, FillProves, FillExtends}
use Rattle.pm_proof.proofs.Fills.{weaker}
use Rattle.pm_schemes.specs.Sketches.{deepest}
use Rattle.pm_star.specs.Stars.{star, part_at, room, Moves}
use Rattle.pm_star.specs.Levels.{IsShared, Around, left_side}
use Rattle.pm_star.specs.Chains.{IsBoxed, IsBoxedMore, IsBoxedAll}
use Rattle.pm_star.specs.declared.beside.Beside.{Beside}
use Rattle.pm_star.proofs.Scoping.{Scopes, depth_sep, depth_box, scoped_sep, box_scoped, scoped_box, scoped_onto, truth_scoped}
use Rattle.pm_star.proofs.Leveling.{around}
use Rattle.pm_star.proofs.Walking.{star_drop, star_end, around_self, around_more}
use Rattle.pm_star.proofs.Moving.{star_append, onto_deep, base_left, built}

-- ---- one part

abbrev OwnBox : ℕ → Formula → Tree → Type 0
OwnBox k x t = Proves Every (entail k x (view.Pers x)) [] 1 (deepest (x ∷ []) [] + 2) k t

pub box_own : (k : ℕ) (x a b : Formula) (t : Tree) → x ≡ view.Pers a → b ≡ a → Proves Every (entail k (view.Pers b) (view.Pers (view.Pers b))) [] 1 (deepest (b ∷ []) [] + 2) k t → OwnBox k x t
box_own k x a b t is at p =
    let e : Entail = entail k (view.Pers b) (view.Pers (view.Pers b)) in
    subst (λ (z : Formula). OwnBox k z t) (ap view.Pers at ∙ sym is) (weaker Every e [] 1 (deepest (b ∷ []) [] + 2) k 1 (deepest (view.Pers b ∷ []) [] + 2) k t (omega arith) (omega (arith, depth_box b)) (omega arith) p)

pub fact_own : (k : ℕ) (x : Formula) (a b : Pure) (t : Tree) → x ≡ Assert a → b ≡ a → Proves Every (entail k (Assert b) (view.Pers (Assert b))) [] 1 (deepest [] (b ∷ []) + 2) k t → OwnBox k x t
fact_own k x a b t is at p =
    let e : Entail = entail k (Assert b) (view.Pers (Assert b)) in
    subst (λ (z : Formula). OwnBox k z t) (ap Assert at ∙ sym is) (weaker Every e [] 1 (deepest [] (b ∷ []) + 2) k 1 (deepest (Assert b ∷ []) [] + 2) k t (omega arith) (omega (arith, depth_pure b)) (omega arith) p)

-- the first of a step's two holes, closed
pub step_closed : (k : ℕ) (x l y : Formula) (own step out : Tree) → OwnBox k x own → Proves Every (entail k (view.Sep x l) (view.Pers (view.Sep x y))) (entail k x (view.Pers x) ∷ entail k l (view.Pers y) ∷ []) 18 (deepest (x ∷ l ∷ y ∷ []) [] + 3) k step → FillProves step 0 own out → Proves Every (entail k (view.Sep x l) (view.Pers (view.Sep x y))) (entail k l (view.Pers y) ∷ []) 19 (deepest (x ∷ l ∷ y ∷ []) [] + 3) k out
step_closed k x l y own step out s t f =
    let h : Entail = entail k x (view.Pers x) in
    let d : ℕ = deepest (x ∷ l ∷ y ∷ []) [] + 3 in
    let s1 = weaker Every h [] 1 (deepest (x ∷ []) [] + 2) k 1 d k own (omega arith) (omega arith) (omega arith) s in
    f Every (entail k (view.Sep x l) (view.Pers (view.Sep x y))) (h ∷ entail k l (view.Pers y) ∷ []) [] 18 1 d k t (subst (λ (z : Entail). Proves Every z [] 1 d k own) (sym s1.concludes) s1)
    (λ preds e all. let p = (scoped_sep preds k x l e.0).0 in subst (EntailScoped preds) (sym s1.concludes) (p, box_scoped preds k x p))

pub more_done : (k : ℕ) (x : Formula) (h : Beside) (e : Entail) (step out : Tree) (part : Formula) → e ≡ conclusion h.proof → IsBoxed k h → part ≡ view.Sep x h.part → Proves Every (entail k (view.Sep x e.left) (view.Pers (view.Sep x h.part))) (entail k e.left (view.Pers h.part) ∷ []) 19 (deepest (x ∷ e.left ∷ h.part ∷ []) [] + 3) k step → FillExtends step 0 h.proof out → IsBoxedMore k x h (record { proof = out; part = part })
more_done k x h e step out part is boxed made p f =
    let hole : entail k e.left (view.Pers h.part) ≡ conclusion h.proof = ap (λ (y : Entail). entail k y.left (view.Pers h.part)) is ∙ sym boxed in
    let deep : deepest (x ∷ e.left ∷ h.part ∷ []) [] + 3 ≤ room (view.Sep x e.left) (view.Pers (view.Sep x h.part)) = omega (arith, depth_sep x e.left, depth_box (view.Sep x h.part), depth_sep x h.part) in
    record {
      part = made;
      known = subst (λ (y : Entail). Around k 19 h.proof (view.Sep x y.left) (view.Pers (view.Sep x h.part)) out) is
          (around k 19 19 (deepest (x ∷ e.left ∷ h.part ∷ []) [] + 3) (entail k e.left (view.Pers h.part)) (view.Sep x e.left) (view.Pers (view.Sep x h.part)) h.proof step out p hole f (omega arith) deep);
    }

-- ---- many

boxed_of : (k : ℕ) (l x : Formula) (g : Beside) → g.part ≡ x → conclusion g.proof ≡ entail k l (view.Pers x) → IsBoxed k g
boxed_of k l x g part is = is ∙ ap (λ (y : Formula). entail k l (view.Pers y)) (sym part) ∙ ap (λ (y : Formula). entail k y (view.Pers g.part)) (sym (ap (λ (y : Entail). y.left) is))

pub all_boxed : (k : ℕ) (fs : List Formula) (i : ℕ) (h g : Beside) → IsBoxedAll k fs i h g → IsBoxed k g
all_boxed k fs i h g s = boxed_of k (star_onto (drop i fs) (left_side h.proof)) (star_onto (drop i fs) h.part) g s.part s.known.concludes

pub boxed_none : (k : ℕ) (fs : List Formula) (h : Beside) → IsBoxed k h → IsBoxedAll k fs (length fs) h h
boxed_none k fs h boxed = record {
  within = omega arith;
  part = sym (star_end fs h.part);
  known = rw (star_end fs (left_side h.proof), star_end fs h.part) (around_self k (19 * (length fs - length fs)) h.proof (left_side h.proof) (view.Pers h.part) boxed);
}

boxed_more : (k : ℕ) (fs : List Formula) (i : ℕ) (x : Formula) (h b c : Beside) → i < length fs → x ≡ get_or fs i x → IsBoxedAll k fs (suc i) h b → IsBoxedMore k x b c → IsBoxedAll k fs i h c
boxed_more k fs i x h b c lt at s q =
    let l : Formula = star_onto (drop (suc i) fs) (left_side h.proof) in
    let r : Formula = star_onto (drop (suc i) fs) h.part in
    let q1 : Around k 19 b.proof (view.Sep x l) (view.Pers (view.Sep x b.part)) c.proof = subst (λ (y : Entail). Around k 19 b.proof (view.Sep x y.left) (view.Pers (view.Sep x b.part)) c.proof) s.known.concludes q.known in
    let q2 : Around k 19 b.proof (view.Sep x l) (view.Pers (view.Sep x r)) c.proof = subst (λ (y : Formula). Around k 19 b.proof (view.Sep x l) (view.Pers (view.Sep x y)) c.proof) s.part q1 in
    let deep : room l (view.Pers r) ≤ room (view.Sep x l) (view.Pers (view.Sep x r)) = omega (arith, depth_sep x l, depth_box r, depth_box (view.Sep x r), depth_sep x r) in
    let total : 19 * (length fs - suc i) + 19 ≤ 19 * (length fs - i) = omega (arith, lt) in
    let wants : Scopes k (view.Sep x l) (view.Pers (view.Sep x r)) l (view.Pers r) = λ preds e.
    ((scoped_sep preds k x l e.0).1, box_scoped preds k r (scoped_sep preds k x r (scoped_box preds k (view.Sep x r) e.1)).1) in
    record {
      within = omega arith;
      part = q.part ∙ ap (view.Sep x) s.part ∙ sym (star_drop fs i x h.part lt at);
      known = rw (star_drop fs i x (left_side h.proof) lt at, star_drop fs i x h.part lt at) (around_more k (19 * (length fs - suc i)) 19 (19 * (length fs - i)) h.proof b.proof c.proof l (view.Pers r) (view.Sep x l) (view.Pers (view.Sep x r)) total deep wants s.known q2);
    }

pub boxed_less : (k : ℕ) (fs : List Formula) (i : ℕ) (x : Formula) (h b c : Beside) → 0 < i → x ≡ get_or fs (i - 1) x → IsBoxedAll k fs i h b → IsBoxedMore k x b c → IsBoxedAll k fs (i - 1) h c
boxed_less k fs zero x h b c some at s q = absurd (omega arith)
boxed_less k fs (suc i) x h b c some at s q =
    let same : suc i - 1 ≡ i = omega arith in
    rw same (boxed_more k fs i x h b c (omega (arith, s.within)) (rw same at at) s q)

pub boxed_every : (k : ℕ) (fs : List Formula) (i : ℕ) (h g : Beside) → i ≤ 0 → IsBoxedAll k fs i h g → IsBoxedAll k fs 0 h g
boxed_every k fs zero h g none s = s
boxed_every k fs (suc i) h g none s = absurd (omega arith)

pub item_shared : (fs : List Formula) (i : ℕ) (x : Formula) → i < length fs → x ≡ get_or fs i x → ((j : ℕ) → j < length fs → IsShared (part_at fs j)) → IsShared x
item_shared fs i x lt at shared = subst IsShared (get_or_default fs i (Assert pure.True) x lt ∙ sym at) (shared i lt)

-- ---- from the end on

pub start_boxed : (k n d : ℕ) (rest x : Formula) (t : Tree) → Proves Every (entail k rest (view.Pers x)) [] n d k t → IsBoxed k (record { proof = t; part = x })
start_boxed k n d rest x t p = boxed_of k rest x (record { proof = t; part = x }) refl p.concludes

pub box_done : (k : ℕ) (fs lost : List Formula) (rest : Formula) (base : Tree) (g : Beside) → rest ≡ star lost → Proves Every (entail k rest (view.Pers (Assert pure.True))) [] 3 (deepest (rest ∷ []) [] + 3) k base → IsBoxedAll k fs 0 (record { proof = base; part = Assert pure.True }) g → Moves k (length fs) (star (fs ++ lost)) (view.Pers (star fs)) g.proof
box_done k fs lost rest base g is b s =
    let t : Formula = view.Pers (Assert pure.True) in
    let n : ℕ = 19 * (length fs - 0) in
    let l1 : Formula = star_onto fs rest in
    let r1 : Formula = view.Pers (star fs) in
    let a1 : Around k n base l1 r1 g.proof = subst (λ (y : Formula). Around k n base (star_onto fs y) r1 g.proof) (base_left k 3 (deepest (rest ∷ []) [] + 3) rest t base b) s.known in
    let wants : Scopes k l1 r1 rest t = λ preds e. ((scoped_onto preds k fs rest e.0).1, box_scoped preds k (Assert pure.True) (truth_scoped preds k)) in
    let deep : deepest (rest ∷ []) [] + 3 ≤ room l1 r1 = omega (arith, onto_deep fs rest) in
    let total : 3 + n ≤ 100 * (length fs + 1) = omega arith in
    let m = built k n 3 (length fs) (deepest (rest ∷ []) [] + 3) rest t l1 r1 base g.proof wants b a1 deep total in
    subst (λ (y : Formula). Moves k (length fs) y r1 g.proof) (ap (star_onto fs) is ∙ sym (star_append fs lost (Assert pure.True))) m
