-- Walks over the parts of a star, a part at a time.
use Rattle.std.proofs.Common.{◌≡◌, ℕ, zero, suc, ◌+◌, ◌-◌, ◌*◌, ◌≤◌, ◌<◌, Bool, true, false, cond, nat_lt, ◌==◌, List, [], ◌∷◌, length, drop, get_or, refl, sym, ap, subst, ◌∙◌, arith}
use Rattle.std.proofs.lemmas.List.{get_or_default}
use Rattle.std.proofs.lemmas.Bool.{ltb-true}
use Rattle.std.specs.List.{list_any}
use Rattle.pm_logic.specs.Size.{depth_of}
use Rattle.pm_logic.specs.Scope.{Scoped}
use Rattle.pm_logic.specs.declared.formula.Formula.{Formula}
use Rattle.pm_logic.specs.declared.formula.Formula.TheVariants.{Pure as Assert}
use Rattle.pm_logic.specs.declared.formula.Formula.TheViews as view
use Rattle.pm_logic.specs.declared.formula.Pure.TheVariants as pure
use Rattle.pm_goal.specs.Left.{star_onto}
use Rattle.pm_rules.specs.declared.rules.Entail.{Entail}
use Rattle.pm_proof.specs.Trees.{Tree, entail, conclusion}
use Rattle.pm_proof.proofs.Fills.{extends_weaker, extends_more}
use Rattle.pm_star.specs.Stars.{star, part_at, room, side_at, left_more, right_more, lefts, rights}
use Rattle.pm_star.specs.Levels.{IsShared, IsHalved, IsLevel, IsDealt, IsBehind, Around, across, facing, left_side, right_side}
use Rattle.pm_star.specs.declared.side.Side.{Side}
use Rattle.pm_star.specs.declared.side.Side.TheVariants as side
use Rattle.pm_star.specs.declared.levels.Halves.{Halves}
use Rattle.pm_star.proofs.Scoping.{Scopes, depth_sep, scoped_sep, sep_scoped, scoped_onto}
use Rattle.pm_star.proofs.Leveling.{deeper, deeper_right, whole}

-- what is left of a list, by its first item
pub at_drop : (fs : List Formula) (i : ℕ) (x : Formula) → i < length fs → x ≡ get_or fs i x → drop i fs ≡ x ∷ drop (suc i) fs
at_drop [] i x lt at = absurd (omega arith)
at_drop (f ∷ fs) zero x lt at = ap (λ y. y ∷ fs) (sym at)
at_drop (f ∷ fs) (suc i) x lt at = at_drop fs i x (omega arith) at

pub star_drop : (fs : List Formula) (i : ℕ) (x end : Formula) → i < length fs → x ≡ get_or fs i x → star_onto (drop i fs) end ≡ view.Sep x (star_onto (drop (suc i) fs) end)
unfolding star_onto
star_drop fs i x end lt at = ap (λ l. star_onto l end) (at_drop fs i x lt at)

pub star_end : (fs : List Formula) (end : Formula) → star_onto (drop (length fs) fs) end ≡ end
unfolding star_onto
star_end [] end = refl
star_end (f ∷ fs) end = star_end fs end

-- ---- the star itself

pub record IsMade (fs : List Formula) (i : ℕ) (made : Formula) : Type 0 where
  pub within : i ≤ length fs
  pub is : made ≡ star_onto (drop i fs) (Assert pure.True)

pub made_none : (fs : List Formula) → IsMade fs (length fs) (Assert pure.True)
made_none fs = record { within = omega arith; is = sym (star_end fs (Assert pure.True)) }

made_more : (fs : List Formula) (i : ℕ) (x made more : Formula) → i < length fs → x ≡ get_or fs i x → IsMade fs (suc i) made → more ≡ view.Sep x made → IsMade fs i more
made_more fs i x made more lt at s e = record { within = omega arith; is = e ∙ ap (view.Sep x) s.is ∙ sym (star_drop fs i x (Assert pure.True) lt at) }

pub made_less : (fs : List Formula) (i : ℕ) (x y made more : Formula) → 0 < i → IsMade fs i made → x ≡ get_or fs (i - 1) x → y ≡ x → more ≡ view.Sep y made → IsMade fs (i - 1) more
made_less fs zero x y made more some s at is e = absurd (omega arith)
made_less fs (suc i) x y made more some s at is e =
    let same : suc i - 1 ≡ i = omega arith in
    rw same (made_more fs i x made more (omega (arith, s.within)) (rw same at at) s (e ∙ ap (λ z. view.Sep z made) is))

pub made_all : (fs : List Formula) (i : ℕ) (made : Formula) → i ≤ 0 → IsMade fs i made → made ≡ star fs
made_all fs zero made none s = s.is
made_all fs (suc i) made none s = absurd (omega arith)

-- ---- around a proof

pub around_self : (k n : ℕ) (by : Tree) (l r : Formula) → conclusion by ≡ entail k l r → Around k n by l r by
around_self k n by l r is = record { concludes = is; holes = refl; valid = λ preds v. v; scoped = λ preds e s. s; size = omega arith; shallow = omega arith; narrow = omega arith }

pub around_more : (k n m c : ℕ) (by inner out : Tree) (l r l1 r1 : Formula) → n + m ≤ c → room l r ≤ room l1 r1 → Scopes k l1 r1 l r → Around k n by l r inner → Around k m inner l1 r1 out → Around k c by l1 r1 out
around_more k n m c by inner out l r l1 r1 total deep wants p q =
    extends_weaker by out (entail k l1 r1) (n + m) (room l1 r1) k c (room l1 r1) k total (omega arith) (omega arith)
    (extends_more by inner out (entail k l r) (entail k l1 r1) n m (room l1 r1) k (extends_weaker by inner (entail k l r) n (room l r) k n (room l1 r1) k (omega arith) deep (omega arith) p) q (λ preds s all. wants preds s))

-- ---- behind the parts

pub behind_none : (k : ℕ) (fs : List Formula) (by : Tree) → (conclusion by).vars ≡ k → IsBehind k fs (length fs) by by
behind_none k fs by vars = record {
  within = omega arith;
  known = rw (star_end fs (left_side by), star_end fs (right_side by)) (around_self k (2 * (length fs - length fs)) by (left_side by) (right_side by) (sym (whole k (conclusion by) (conclusion by) refl vars)));
}

behind_more : (k : ℕ) (fs : List Formula) (i : ℕ) (x : Formula) (by inner out : Tree) → i < length fs → x ≡ get_or fs i x → IsBehind k fs (suc i) by inner → Around k 2 inner (view.Sep x (left_side inner)) (view.Sep x (right_side inner)) out → IsBehind k fs i by out
behind_more k fs i x by inner out lt at s q =
    let l : Formula = star_onto (drop (suc i) fs) (left_side by) in
    let r : Formula = star_onto (drop (suc i) fs) (right_side by) in
    let q1 : Around k 2 inner (view.Sep x l) (view.Sep x r) out = subst (λ (y : Entail). Around k 2 inner (view.Sep x y.left) (view.Sep x y.right) out) s.known.concludes q in
    let deep : room l r ≤ room (view.Sep x l) (view.Sep x r) = omega (arith, depth_sep x l, depth_sep x r) in
    let total : 2 * (length fs - suc i) + 2 ≤ 2 * (length fs - i) = omega (arith, lt) in
    let wants : Scopes k (view.Sep x l) (view.Sep x r) l r = λ preds e. ((scoped_sep preds k x l e.0).1, (scoped_sep preds k x r e.1).1) in
    record {
      within = omega arith;
      known = rw (star_drop fs i x (left_side by) lt at, star_drop fs i x (right_side by) lt at) (around_more k (2 * (length fs - suc i)) 2 (2 * (length fs - i)) by inner out l r (view.Sep x l) (view.Sep x r) total deep wants s.known q1);
    }

pub behind_less : (k : ℕ) (fs : List Formula) (i : ℕ) (x : Formula) (by inner out : Tree) → 0 < i → x ≡ get_or fs (i - 1) x → IsBehind k fs i by inner → Around k 2 inner (view.Sep x (left_side inner)) (view.Sep x (right_side inner)) out → IsBehind k fs (i - 1) by out
behind_less k fs zero x by inner out some at s q = absurd (omega arith)
behind_less k fs (suc i) x by inner out some at s q =
    let same : suc i - 1 ≡ i = omega arith in
    rw same (behind_more k fs i x by inner out (omega (arith, s.within)) (rw same at at) s q)

pub behind_vars : (k : ℕ) (fs : List Formula) (i : ℕ) (by t : Tree) → IsBehind k fs i by t → (conclusion t).vars ≡ k
behind_vars k fs i by t s = ap (λ (y : Entail). y.vars) s.known.concludes

pub behind_every : (k : ℕ) (fs : List Formula) (i : ℕ) (by t : Tree) → i ≤ 0 → IsBehind k fs i by t → IsBehind k fs 0 by t
behind_every k fs zero by t none s = s
behind_every k fs (suc i) by t none s = absurd (omega arith)

-- ---- dealt

-- the left side as it is
pub halved_of : (k : ℕ) (l : Formula) (a : Halves) → conclusion a.proof ≡ entail k l (view.Sep a.left a.right) → IsHalved k a
halved_of k l a is = is ∙ ap (λ (y : Formula). entail k y (view.Sep a.left a.right)) (sym (ap (λ (y : Entail). y.left) is))

pub dealt_halved : (k : ℕ) (side : ℕ → Side) (fs : List Formula) (i : ℕ) (a b : Halves) → IsDealt k side fs i a b → IsHalved k b
dealt_halved k side fs i a b s = halved_of k (star_onto (drop i fs) (left_side a.proof)) b s.known.concludes

lefts_end : (side : ℕ → Side) (n : ℕ) (fs : List Formula) (end : Formula) → star_onto (lefts side n (drop (length fs) fs)) end ≡ end
unfolding star_onto
lefts_end side n [] end = refl
lefts_end side n (f ∷ fs) end = lefts_end side n fs end

rights_end : (side : ℕ → Side) (n : ℕ) (fs : List Formula) (end : Formula) → star_onto (rights side n (drop (length fs) fs)) end ≡ end
unfolding star_onto
rights_end side n [] end = refl
rights_end side n (f ∷ fs) end = rights_end side n fs end

pub dealt_none : (k : ℕ) (side : ℕ → Side) (fs : List Formula) (a : Halves) → IsHalved k a → IsDealt k side fs (length fs) a a
dealt_none k side fs a halved = record {
  within = omega arith;
  left = sym (lefts_end side (length fs) fs a.left);
  right = sym (rights_end side (length fs) fs a.right);
  known = rw (star_end fs (left_side a.proof)) (around_self k (30 * (length fs - length fs)) a.proof (left_side a.proof) (view.Sep a.left a.right) halved);
}

left_onto : (z : Side) (x : Formula) (ls : List Formula) (end : Formula) → star_onto (left_more z x []) (star_onto ls end) ≡ star_onto (left_more z x ls) end
unfolding star_onto
left_onto side.Left x ls end = refl
left_onto side.Right x ls end = refl
left_onto side.Both x ls end = refl

right_onto : (z : Side) (x : Formula) (ls : List Formula) (end : Formula) → star_onto (right_more z x []) (star_onto ls end) ≡ star_onto (right_more z x ls) end
unfolding star_onto
right_onto side.Left x ls end = refl
right_onto side.Right x ls end = refl
right_onto side.Both x ls end = refl

dealt_more : (k : ℕ) (side : ℕ → Side) (fs : List Formula) (i : ℕ) (x : Formula) (a b c : Halves) → i < length fs → x ≡ get_or fs i x → IsDealt k side fs (suc i) a b → IsLevel k x (side i) b c → IsDealt k side fs i a c
dealt_more k side fs i x a b c lt at s q =
    let rest : List Formula = drop (suc i) fs in
    let l : Formula = star_onto rest (left_side a.proof) in
    let is : drop i fs ≡ x ∷ rest = at_drop fs i x lt at in
    let from : left_side b.proof ≡ l = ap (λ (y : Entail). y.left) s.known.concludes in
    let q1 : Around k 30 b.proof (view.Sep x l) (view.Sep c.left c.right) c.proof = subst (λ (y : Formula). Around k 30 b.proof (view.Sep x y) (view.Sep c.left c.right) c.proof) from q.known in
    let dl : depth_of b.left ≤ depth_of c.left = rw q.left (deeper (side i) x b.left) in
    let dr : depth_of b.right ≤ depth_of c.right = rw q.right (deeper_right (side i) x b.right) in
    let deep : room l (view.Sep b.left b.right) ≤ room (view.Sep x l) (view.Sep c.left c.right) = omega (arith, depth_sep x l, depth_sep b.left b.right, depth_sep c.left c.right, dl, dr) in
    let total : 30 * (length fs - suc i) + 30 ≤ 30 * (length fs - i) = omega (arith, lt) in
    let wants : Scopes k (view.Sep x l) (view.Sep c.left c.right) l (view.Sep b.left b.right) = λ preds e.
    let h = scoped_sep preds k c.left c.right e.1 in
    let hl = (scoped_onto preds k (left_more (side i) x []) b.left (subst (Scoped preds k) q.left h.0)).1 in
    let hr = (scoped_onto preds k (right_more (side i) x []) b.right (subst (Scoped preds k) q.right h.1)).1 in
    ((scoped_sep preds k x l e.0).1, sep_scoped preds k b.left b.right hl hr) in
    record {
      within = omega arith;
      left = q.left ∙ ap (star_onto (left_more (side i) x [])) s.left ∙ left_onto (side i) x (lefts side (suc i) rest) a.left ∙ ap (λ ls. star_onto (lefts side i ls) a.left) (sym is);
      right = q.right ∙ ap (star_onto (right_more (side i) x [])) s.right ∙ right_onto (side i) x (rights side (suc i) rest) a.right ∙ ap (λ ls. star_onto (rights side i ls) a.right) (sym is);
      known = rw (star_drop fs i x (left_side a.proof) lt at) (around_more k (30 * (length fs - suc i)) 30 (30 * (length fs - i)) a.proof b.proof c.proof l (view.Sep b.left b.right) (view.Sep x l) (view.Sep c.left c.right) total deep wants s.known q1);
    }

pub dealt_less : (k : ℕ) (side : ℕ → Side) (fs : List Formula) (i : ℕ) (x : Formula) (z : Side) (a b c : Halves) → 0 < i → x ≡ get_or fs (i - 1) x → z ≡ side (i - 1) → IsDealt k side fs i a b → IsLevel k x z b c → IsDealt k side fs (i - 1) a c
dealt_less k side fs zero x z a b c some at to s q = absurd (omega arith)
dealt_less k side fs (suc i) x z a b c some at to s q =
    let same : suc i - 1 ≡ i = omega arith in
    rw same (dealt_more k side fs i x a b c (omega (arith, s.within)) (rw same at at) s (subst (λ (y : Side). IsLevel k x y b c) (rw same at to) q))

pub dealt_every : (k : ℕ) (side : ℕ → Side) (fs : List Formula) (i : ℕ) (a b : Halves) → i ≤ 0 → IsDealt k side fs i a b → IsDealt k side fs 0 a b
dealt_every k side fs zero a b none s = s
dealt_every k side fs (suc i) a b none s = absurd (omega arith)

-- only the first parts go to both sides
both_first : (n : ℕ) (listed : List ℕ) (i : ℕ) → side_at n listed i ≡ side.Both → i < n
both_first n listed i h = go (nat_lt i n) refl h
  where
    other : (b : Bool) → cond b side.Left side.Right ≡ side.Both → ⊥
    other true e = absurd (cc)
    other false e = absurd (cc)

    go : (b : Bool) → nat_lt i n ≡ b → cond b side.Both (cond (list_any (λ j. j == i) listed) side.Left side.Right) ≡ side.Both → i < n
    go true e h1 = ltb-true i n e
    go false e h1 = absurd (other (list_any (λ j. j == i) listed) h1)

across_both : (z : Side) → across z ≡ side.Both → z ≡ side.Both
across_both side.Left e = absurd (cc)
across_both side.Right e = absurd (cc)
across_both side.Both e = refl

facing_both : (crossed : Bool) (sides : ℕ → Side) (i : ℕ) → facing crossed sides i ≡ side.Both → sides i ≡ side.Both
facing_both true sides i e = across_both (sides i) e
facing_both false sides i e = e

pub both_shared : (crossed : Bool) (n : ℕ) (listed : List ℕ) (fs : List Formula) (i : ℕ) (x : Formula) (z : Side) → i < length fs → x ≡ get_or fs i x → ((j : ℕ) → j < n → IsShared (part_at fs j)) → z ≡ facing crossed (side_at n listed) i → z ≡ side.Both → IsShared x
both_shared crossed n listed fs i x z lt at shared to both =
    subst IsShared (get_or_default fs i (Assert pure.True) x lt ∙ sym at) (shared i (both_first n listed i (facing_both crossed (side_at n listed) i (sym to ∙ both))))
