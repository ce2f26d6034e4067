-- A part in front of a star goes past other parts, to a place.
use Rattle.std.proofs.Common.{◌≡◌, ℕ, zero, suc, ◌+◌, ◌-◌, ◌*◌, ◌≤◌, ◌<◌, List, [], ◌∷◌, length, take, drop, get_or, insert, refl, sym, ap, subst, ◌∙◌, arith}
use Rattle.std.proofs.lemmas.List.{take-append-drop, take_rest}
use Rattle.pm_logic.specs.declared.formula.Formula.{Formula}
use Rattle.pm_logic.specs.declared.formula.Formula.TheVariants.{Pure as Assert}
use Rattle.pm_logic.specs.declared.formula.Formula.TheViews as view
use Rattle.pm_logic.specs.declared.formula.Pure.TheVariants as pure
use Rattle.pm_goal.specs.Left.{star_onto}
use Rattle.pm_rules.specs.declared.rules.Entail.{Entail}
use Rattle.pm_proof.specs.Trees.{Tree, entail, conclusion}
use Rattle.pm_proof.specs.Known.{Proves, Every, FillExtends}
use Rattle.pm_schemes.specs.Sketches.{deepest}
use Rattle.pm_star.specs.Stars.{star, room, Moves}
use Rattle.pm_star.specs.Levels.{Around, right_side}
use Rattle.pm_star.specs.Chains.{IsSunk, IsPast, IsPastAll}
use Rattle.pm_star.specs.declared.beside.Beside.{Beside}
use Rattle.pm_star.proofs.Scoping.{Scopes, depth_sep, scoped_sep, sep_scoped, scoped_onto}
use Rattle.pm_star.proofs.Leveling.{around}
use Rattle.pm_star.proofs.Walking.{star_drop, star_end, around_self, around_more}
use Rattle.pm_star.proofs.Moving.{star_append, star_front, onto_deep, taken, base_right, built}

-- ---- past one part

pub past_one : (k : ℕ) (a x : Formula) (h : Beside) (e : Entail) (step out : Tree) (part : Formula) → e ≡ conclusion h.proof → IsSunk k a h → part ≡ view.Sep x h.part → Proves Every (entail k (view.Sep (view.Sep x h.part) a) (view.Sep x e.right)) (entail k (view.Sep h.part a) e.right ∷ []) 4 (deepest (a ∷ h.part ∷ e.right ∷ x ∷ []) [] + 2) k step → FillExtends step 0 h.proof out → IsPast k a x h (record { proof = out; part = part })
past_one k a x h e step out part is sunk made p f =
    let hole : entail k (view.Sep h.part a) e.right ≡ conclusion h.proof = ap (λ (y : Entail). entail k (view.Sep h.part a) y.right) is ∙ sym sunk in
    let deep : deepest (a ∷ h.part ∷ e.right ∷ x ∷ []) [] + 2 ≤ room (view.Sep (view.Sep x h.part) a) (view.Sep x e.right) = omega (arith, depth_sep (view.Sep x h.part) a, depth_sep x h.part, depth_sep x e.right) in
    record {
      part = made;
      known = subst (λ (y : Entail). Around k 4 h.proof (view.Sep (view.Sep x h.part) a) (view.Sep x y.right) out) is
          (around k 4 4 (deepest (a ∷ h.part ∷ e.right ∷ x ∷ []) [] + 2) (entail k (view.Sep h.part a) e.right) (view.Sep (view.Sep x h.part) a) (view.Sep x e.right) h.proof step out p hole f (omega arith) deep);
    }

-- ---- past many

-- what it proves, by the part that stands beside it
sunk_of : (k : ℕ) (a x r : Formula) (g : Beside) → g.part ≡ x → conclusion g.proof ≡ entail k (view.Sep x a) r → IsSunk k a g
sunk_of k a x r g part is = is ∙ ap (λ (y : Formula). entail k (view.Sep y a) r) (sym part) ∙ ap (entail k (view.Sep g.part a)) (sym (ap (λ (y : Entail). y.right) is))

pub past_sunk : (k : ℕ) (a : Formula) (fs : List Formula) (i : ℕ) (h g : Beside) → IsPastAll k a fs i h g → IsSunk k a g
past_sunk k a fs i h g s = sunk_of k a (star_onto (drop i fs) h.part) (star_onto (drop i fs) (right_side h.proof)) g s.part s.known.concludes

pub past_none : (k : ℕ) (a : Formula) (fs : List Formula) (h : Beside) → IsSunk k a h → IsPastAll k a fs (length fs) h h
past_none k a fs h sunk = record {
  within = omega arith;
  part = sym (star_end fs h.part);
  known = rw (star_end fs h.part, star_end fs (right_side h.proof)) (around_self k (4 * (length fs - length fs)) h.proof (view.Sep h.part a) (right_side h.proof) sunk);
}

past_more : (k : ℕ) (a : Formula) (fs : List Formula) (i : ℕ) (x : Formula) (h b c : Beside) → i < length fs → x ≡ get_or fs i x → IsPastAll k a fs (suc i) h b → IsPast k a x b c → IsPastAll k a fs i h c
past_more k a fs i x h b c lt at s q =
    let l : Formula = star_onto (drop (suc i) fs) h.part in
    let r : Formula = star_onto (drop (suc i) fs) (right_side h.proof) in
    let q1 : Around k 4 b.proof (view.Sep (view.Sep x l) a) (view.Sep x (right_side b.proof)) c.proof = subst (λ (y : Formula). Around k 4 b.proof (view.Sep (view.Sep x y) a) (view.Sep x (right_side b.proof)) c.proof) s.part q.known in
    let q2 : Around k 4 b.proof (view.Sep (view.Sep x l) a) (view.Sep x r) c.proof = subst (λ (y : Entail). Around k 4 b.proof (view.Sep (view.Sep x l) a) (view.Sep x y.right) c.proof) s.known.concludes q1 in
    let deep : room (view.Sep l a) r ≤ room (view.Sep (view.Sep x l) a) (view.Sep x r) = omega (arith, depth_sep l a, depth_sep (view.Sep x l) a, depth_sep x l, depth_sep x r) in
    let total : 4 * (length fs - suc i) + 4 ≤ 4 * (length fs - i) = omega (arith, lt) in
    let wants : Scopes k (view.Sep (view.Sep x l) a) (view.Sep x r) (view.Sep l a) r = λ preds e.
    let p = scoped_sep preds k (view.Sep x l) a e.0 in
    (sep_scoped preds k l a (scoped_sep preds k x l p.0).1 p.1, (scoped_sep preds k x r e.1).1) in
    record {
      within = omega arith;
      part = q.part ∙ ap (view.Sep x) s.part ∙ sym (star_drop fs i x h.part lt at);
      known = rw (star_drop fs i x h.part lt at, star_drop fs i x (right_side h.proof) lt at) (around_more k (4 * (length fs - suc i)) 4 (4 * (length fs - i)) h.proof b.proof c.proof (view.Sep l a) r (view.Sep (view.Sep x l) a) (view.Sep x r) total deep wants s.known q2);
    }

pub past_less : (k : ℕ) (a : Formula) (fs : List Formula) (i : ℕ) (x : Formula) (h b c : Beside) → 0 < i → x ≡ get_or fs (i - 1) x → IsPastAll k a fs i h b → IsPast k a x b c → IsPastAll k a fs (i - 1) h c
past_less k a fs zero x h b c some at s q = absurd (omega arith)
past_less k a fs (suc i) x h b c some at s q =
    let same : suc i - 1 ≡ i = omega arith in
    rw same (past_more k a fs i x h b c (omega (arith, s.within)) (rw same at at) s q)

pub past_every : (k : ℕ) (a : Formula) (fs : List Formula) (i : ℕ) (h g : Beside) → i ≤ 0 → IsPastAll k a fs i h g → IsPastAll k a fs 0 h g
past_every k a fs zero h g none s = s
past_every k a fs (suc i) h g none s = absurd (omega arith)

-- ---- to a place

pub start_sunk : (k n d : ℕ) (a rest : Formula) (t : Tree) → Proves Every (entail k (view.Sep rest a) (view.Sep a rest)) [] n d k t → IsSunk k a (record { proof = t; part = rest })
start_sunk k n d a rest t p = sunk_of k a rest (view.Sep a rest) (record { proof = t; part = rest }) refl p.concludes

-- a slice from the place on
pub onward_slice : (fs : List Formula) (i : ℕ) (rest : Formula) → rest ≡ star (take (length fs - i) (drop i fs)) → rest ≡ star (drop i fs)
onward_slice fs i rest is = is ∙ ap star (take_rest fs i)

-- before a place, and from it on
pub star_cut : (fs : List Formula) (i : ℕ) → star_onto (take i fs) (star (drop i fs)) ≡ star fs
star_cut fs i = sym (star_append (take i fs) (drop i fs) (Assert pure.True)) ∙ ap star (take-append-drop i fs)

pub star_insert : (fs : List Formula) (i : ℕ) (a : Formula) → star_onto (take i fs) (view.Sep a (star (drop i fs))) ≡ star (insert fs i a)
star_insert fs i a = ap (star_onto (take i fs)) (star_front (drop i fs) a) ∙ sym (star_append (take i fs) (a ∷ drop i fs) (Assert pure.True))

-- the other way round
other_way : (k : ℕ) (a : Formula) (g : Beside) (e : Entail) (step out : Tree) (x r : Formula) → e ≡ conclusion g.proof → IsSunk k a g → g.part ≡ x → right_side g.proof ≡ r → Proves Every (entail k (view.Sep a g.part) e.right) (entail k (view.Sep g.part a) e.right ∷ []) 2 (deepest (a ∷ g.part ∷ e.right ∷ []) [] + 1) k step → FillExtends step 0 g.proof out → Around k 2 g.proof (view.Sep a x) r out
other_way k a g e step out x r is sunk part right p f =
    let hole : entail k (view.Sep g.part a) e.right ≡ conclusion g.proof = ap (λ (y : Entail). entail k (view.Sep g.part a) y.right) is ∙ sym sunk in
    let deep : deepest (a ∷ g.part ∷ e.right ∷ []) [] + 1 ≤ room (view.Sep a g.part) e.right = omega (arith, depth_sep a g.part) in
    let q : Around k 2 g.proof (view.Sep a g.part) e.right out = around k 2 2 (deepest (a ∷ g.part ∷ e.right ∷ []) [] + 1) (entail k (view.Sep g.part a) e.right) (view.Sep a g.part) e.right g.proof step out p hole f (omega arith) deep in
    subst (λ (y : Formula). Around k 2 g.proof (view.Sep a y) r out) part (subst (λ (y : Formula). Around k 2 g.proof (view.Sep a g.part) y out) (ap (λ (y : Entail). y.right) is ∙ right) q)

pub place_done : (k : ℕ) (fs before : List Formula) (i : ℕ) (a rest : Formula) (base : Tree) (g : Beside) (e : Entail) (step out : Tree) → i ≤ length fs → rest ≡ star (drop i fs) → before ≡ take i fs → Proves Every (entail k (view.Sep rest a) (view.Sep a rest)) [] 1 (deepest (a ∷ rest ∷ []) [] + 1) k base → IsPastAll k a before 0 (record { proof = base; part = rest }) g → e ≡ conclusion g.proof → Proves Every (entail k (view.Sep a g.part) e.right) (entail k (view.Sep g.part a) e.right ∷ []) 2 (deepest (a ∷ g.part ∷ e.right ∷ []) [] + 1) k step → FillExtends step 0 g.proof out → Moves k (length fs) (view.Sep a (star fs)) (star (insert fs i a)) out
place_done k fs before i a rest base g e step out le behind ahead b s is p f =
    let from : Formula = view.Sep rest a in
    let to : Formula = view.Sep a rest in
    let n : ℕ = 4 * (length before - 0) in
    let x : Formula = star_onto before rest in
    let l1 : Formula = view.Sep x a in
    let l2 : Formula = view.Sep a x in
    let r1 : Formula = star_onto before to in
    let a1 : Around k n base l1 r1 g.proof = subst (λ (y : Formula). Around k n base l1 (star_onto before y) g.proof) (base_right k 1 (deepest (a ∷ rest ∷ []) [] + 1) from to base b) s.known in
    let right : right_side g.proof ≡ r1 = ap (λ (y : Entail). y.right) a1.concludes in
    let q : Around k 2 g.proof l2 r1 out = other_way k a g e step out x r1 is (past_sunk k a before 0 (record { proof = base; part = rest }) g s) s.part right p f in
    let swaps : Scopes k l2 r1 l1 r1 = λ preds z. let h = scoped_sep preds k a x z.0 in (sep_scoped preds k x a h.1 h.0, z.1) in
    let less : room l1 r1 ≤ room l2 r1 = omega (arith, depth_sep a x, depth_sep x a) in
    let a2 : Around k (n + 2) base l2 r1 out = around_more k n 2 (n + 2) base g.proof out l1 r1 l2 r1 (omega arith) less swaps a1 q in
    let wants : Scopes k l2 r1 from to = λ preds z. let h = scoped_sep preds k a rest (scoped_onto preds k before to z.1).1 in (sep_scoped preds k rest a h.1 h.0, (scoped_onto preds k before to z.1).1) in
    let deep : deepest (a ∷ rest ∷ []) [] + 1 ≤ room l2 r1 = omega (arith, depth_sep a rest, onto_deep before to) in
    let short : length before ≤ length fs = omega (arith, le, ap length ahead ∙ taken fs i le) in
    let total : 1 + (n + 2) ≤ 100 * (length fs + 1) = omega (arith, short) in
    let m = built k (n + 2) 1 (length fs) (deepest (a ∷ rest ∷ []) [] + 1) from to l2 r1 base out wants b a2 deep total in
    let left_is : l2 ≡ view.Sep a (star fs) = ap (view.Sep a) (ap (λ z. star_onto z rest) ahead ∙ ap (star_onto (take i fs)) behind ∙ star_cut fs i) in
    let right_is : r1 ≡ star (insert fs i a) = ap (λ z. star_onto z to) ahead ∙ ap (λ y. star_onto (take i fs) (view.Sep a y)) behind ∙ star_insert fs i a in
    subst (λ (y : Formula). Moves k (length fs) y (star (insert fs i a)) out) left_is (subst (λ (y : Formula). Moves k (length fs) l2 y out) right_is m)
