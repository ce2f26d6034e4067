-- Stars changed at a place.
use Rattle.std.proofs.Common.{◌≡◌, ℕ, zero, suc, ◌+◌, ◌-◌, ◌*◌, ◌≤◌, ◌<◌, Bool, true, false, List, [], ◌∷◌, ◌++◌, length, take, drop, get_or, set, refl, sym, ap, subst, ◌∙◌, arith, nat_lt}
use Rattle.std.proofs.lemmas.Bool.{ltb-true}
use Rattle.std.proofs.lemmas.List.{get_or_default, take_rest}
use Rattle.pm_logic.specs.Size.{depth_of}
use Rattle.pm_logic.specs.declared.formula.Formula.{Formula}
use Rattle.pm_logic.specs.declared.formula.Formula.TheVariants.{Pure as Assert}
use Rattle.pm_logic.specs.declared.formula.Formula.TheViews as view
use Rattle.pm_logic.specs.declared.formula.Pure.TheVariants as pure
use Rattle.pm_goal.specs.Left.{star_onto}
use Rattle.pm_rules.specs.declared.rules.Entail.{Entail}
use Rattle.pm_proof.specs.Trees.{Tree, entail}
use Rattle.pm_proof.specs.Known.{Proves, Every}
use Rattle.pm_proof.proofs.Fills.{weaker, extends_proves}
use Rattle.pm_schemes.specs.Sketches.{deepest}
use Rattle.pm_star.specs.Stars.{star, part_at, without, in_front, duplicated, dealt, room, side_at, lefts, rights, Moves, MovesBy}
use Rattle.pm_star.specs.Levels.{IsShared, IsHalved, IsSplit, IsBehind, Around, left_side, right_side}
use Rattle.pm_star.specs.declared.side.Side.TheVariants as side
use Rattle.pm_star.specs.declared.levels.Halves.{Halves}
use Rattle.pm_star.proofs.Scoping.{Scopes, depth_sep, scoped_sep, sep_scoped, scoped_onto, truth_scoped}
use Rattle.pm_star.proofs.Walking.{around_more, halved_of}

-- ---- stars of lists

pub star_append : (fs gs : List Formula) (end : Formula) → star_onto (fs ++ gs) end ≡ star_onto fs (star_onto gs end)
unfolding star_onto
star_append [] gs end = refl
star_append (f ∷ fs) gs end = ap (view.Sep f) (star_append fs gs end)

-- before a place, at it, and behind it
pub star_parted : (fs : List Formula) (i : ℕ) → i < length fs → star_onto (take i fs) (view.Sep (part_at fs i) (star (drop (suc i) fs))) ≡ star fs
unfolding star_onto
star_parted [] i lt = absurd (omega arith)
star_parted (f ∷ fs) zero lt = refl
star_parted (f ∷ fs) (suc i) lt = ap (view.Sep f) (star_parted fs i (omega arith))

star_without : (fs : List Formula) (i : ℕ) → star_onto (take i fs) (star (drop (suc i) fs)) ≡ star (without fs i)
star_without fs i = sym (star_append (take i fs) (drop (suc i) fs) (Assert pure.True))

star_set : (fs : List Formula) (i : ℕ) (g : Formula) → i < length fs → star_onto (take i fs) (view.Sep g (star (drop (suc i) fs))) ≡ star (set fs i g)
unfolding star_onto
star_set [] i g lt = absurd (omega arith)
star_set (f ∷ fs) zero g lt = refl
star_set (f ∷ fs) (suc i) g lt = ap (view.Sep f) (star_set fs i g (omega arith))

pub star_front : (fs : List Formula) (f : Formula) → view.Sep f (star fs) ≡ star (f ∷ fs)
unfolding star_onto
star_front fs f = refl

-- a star is no shallower than what it ends in
pub onto_deep : (fs : List Formula) (end : Formula) → depth_of end ≤ depth_of (star_onto fs end)
unfolding star_onto
onto_deep [] end = omega arith
onto_deep (f ∷ fs) end = omega (arith, depth_sep f (star_onto fs end), onto_deep fs end)

pub taken : (fs : List Formula) (i : ℕ) → i ≤ length fs → length (take i fs) ≡ i
taken fs zero le = refl
taken [] (suc i) le = absurd (omega arith)
taken (f ∷ fs) (suc i) le = ap suc (taken fs i (omega arith))

-- ---- nothing but the right side

right_only : (i : ℕ) → side_at 0 [] i ≡ side.Right
right_only i = go (nat_lt i 0) refl
  where
    go : (b : Bool) → nat_lt i 0 ≡ b → side_at 0 [] i ≡ side.Right
    go true e = let lt : i < 0 = ltb-true i 0 e in absurd (omega (arith, lt))
    go false e = rw e refl

no_lefts : (fs : List Formula) (i : ℕ) → lefts (side_at 0 []) i fs ≡ []
no_lefts [] i = refl
no_lefts (f ∷ fs) i = rw (right_only i) (no_lefts fs (suc i))

all_rights : (fs : List Formula) (i : ℕ) → rights (side_at 0 []) i fs ≡ fs
all_rights [] i = refl
all_rights (f ∷ fs) i = rw (right_only i) (ap (λ l. f ∷ l) (all_rights fs (suc i)))

left_empty : (end : Formula) → star_onto [] end ≡ end
unfolding star_onto
left_empty end = refl

pub past_done : (k : ℕ) (fs : List Formula) (a b : Halves) → IsSplit k (side_at 0 []) fs a b → Around k (30 * length fs + 4) a.proof (star_onto fs (left_side a.proof)) (view.Sep a.left (star_onto fs a.right)) b.proof
past_done k fs a b s =
    let l : b.left ≡ a.left = s.left ∙ ap (λ ls. star_onto ls a.left) (no_lefts fs 0) ∙ left_empty a.left in
    let r : b.right ≡ star_onto fs a.right = s.right ∙ ap (λ ls. star_onto ls a.right) (all_rights fs 0) in
    subst (λ (y : Formula). Around k (30 * length fs + 4) a.proof (star_onto fs (left_side a.proof)) (view.Sep y (star_onto fs a.right)) b.proof) l
    (subst (λ (y : Formula). Around k (30 * length fs + 4) a.proof (star_onto fs (left_side a.proof)) (view.Sep b.left y) b.proof) r s.known)

pub none_shared : (fs : List Formula) (i : ℕ) → i < 0 → IsShared (part_at fs i)
none_shared fs i lt = absurd (omega (arith, lt))

-- ---- moves

-- around what was built for the place
pub built : (k n m c d : ℕ) (l r l1 r1 : Formula) (base p : Tree) → Scopes k l1 r1 l r → Proves Every (entail k l r) [] m d k base → Around k n base l1 r1 p → d ≤ room l1 r1 → m + n ≤ 100 * (c + 1) → Moves k c l1 r1 p
built k n m c d l r l1 r1 base p wants b a deep total =
    weaker Every (entail k l1 r1) [] (m + n) (room l1 r1) k (100 * (c + 1)) (room l1 r1) k p total (omega arith) (omega arith)
    (extends_proves Every base p (entail k l r) (entail k l1 r1) [] m n (room l1 r1) k (weaker Every (entail k l r) [] m d k m (room l1 r1) k base (omega arith) deep (omega arith) b) a (λ preds s all. wants preds s))

pub base_left : (k n d : ℕ) (l r : Formula) (t : Tree) → Proves Every (entail k l r) [] n d k t → left_side t ≡ l
base_left k n d l r t p = ap (λ (y : Entail). y.left) p.concludes

pub base_right : (k n d : ℕ) (l r : Formula) (t : Tree) → Proves Every (entail k l r) [] n d k t → right_side t ≡ r
base_right k n d l r t p = ap (λ (y : Entail). y.right) p.concludes

-- the start of a walk past the parts before
pub start_halved : (k n d : ℕ) (l p q : Formula) (t : Tree) (p1 q1 : Formula) → Proves Every (entail k l (view.Sep p q)) [] n d k t → p1 ≡ p → q1 ≡ q → IsHalved k (record { proof = t; left = p1; right = q1 })
start_halved k n d l p q t p1 q1 b pis qis = halved_of k l (record { proof = t; left = p1; right = q1 }) (b.concludes ∙ rw (pis, qis) refl)

-- ---- the place, as the code has it

pub at_place : (fs : List Formula) (i : ℕ) (x : Formula) → i < length fs → x ≡ get_or fs i x → x ≡ part_at fs i
at_place fs i x lt at = at ∙ get_or_default fs i x (Assert pure.True) lt

pub place_is : (fs before : List Formula) (i : ℕ) (x rest : Formula) → i < length fs → x ≡ part_at fs i → rest ≡ star (drop (suc i) fs) → before ≡ take i fs → star_onto before (view.Sep x rest) ≡ star fs
place_is fs before i x rest lt at behind ahead =
    ap (λ b. star_onto b (view.Sep x rest)) ahead ∙ ap (λ r. star_onto (take i fs) (view.Sep x r)) behind ∙ ap (λ y. star_onto (take i fs) (view.Sep y (star (drop (suc i) fs)))) at ∙ star_parted fs i lt

rest_is : (fs before : List Formula) (i : ℕ) (rest : Formula) → rest ≡ star (drop (suc i) fs) → before ≡ take i fs → star_onto before rest ≡ star (without fs i)
rest_is fs before i rest behind ahead = ap (λ b. star_onto b rest) ahead ∙ ap (star_onto (take i fs)) behind ∙ star_without fs i

-- a slice from behind the place on
pub behind_slice : (fs : List Formula) (i : ℕ) (rest : Formula) → rest ≡ star (take (length fs - (i + 1)) (drop (i + 1) fs)) → rest ≡ star (drop (suc i) fs)
behind_slice fs i rest is =
    let next : i + 1 ≡ suc i = omega arith in
    is ∙ ap star (take_rest fs (i + 1)) ∙ ap (λ n. star (drop n fs)) next

pub ahead_length : (fs before : List Formula) (i : ℕ) → i < length fs → before ≡ take i fs → length before ≤ length fs
ahead_length fs before i lt ahead = omega (arith, lt, ap length ahead ∙ taken fs i (omega (arith, lt)))

pub front_done : (k : ℕ) (fs before : List Formula) (i : ℕ) (x rest left : Formula) (base p : Tree) → i < length fs → x ≡ get_or fs i x → rest ≡ star (drop (suc i) fs) → before ≡ take i fs → left ≡ x → Proves Every (entail k (view.Sep x rest) (view.Sep x rest)) [] 1 (deepest (x ∷ rest ∷ []) [] + 1) k base → Around k (30 * length before + 4) base (star_onto before (left_side base)) (view.Sep left (star_onto before rest)) p → Moves k (length fs) (star fs) (star (in_front fs i)) p
front_done k fs before i x rest left base p lt at behind ahead lis b a =
    let s : Formula = view.Sep x rest in
    let l1 : Formula = star_onto before s in
    let r1 : Formula = view.Sep left (star_onto before rest) in
    let a1 : Around k (30 * length before + 4) base l1 r1 p = subst (λ (y : Formula). Around k (30 * length before + 4) base (star_onto before y) r1 p) (base_left k 1 (deepest (x ∷ rest ∷ []) [] + 1) s s base b) a in
    let deep : deepest (x ∷ rest ∷ []) [] + 1 ≤ room l1 r1 = omega (arith, depth_sep x rest, onto_deep before s) in
    let total : 1 + (30 * length before + 4) ≤ 100 * (length fs + 1) = omega (arith, ahead_length fs before i lt ahead) in
    let wants : Scopes k l1 r1 s s = λ preds e. let h = (scoped_onto preds k before s e.0).1 in (h, h) in
    let m = built k (30 * length before + 4) 1 (length fs) (deepest (x ∷ rest ∷ []) [] + 1) s s l1 r1 base p wants b a1 deep total in
    let here : x ≡ part_at fs i = at_place fs i x lt at in
    let left_is : l1 ≡ star fs = place_is fs before i x rest lt here behind ahead in
    let right_is : r1 ≡ star (in_front fs i) = ap (λ y. view.Sep y (star_onto before rest)) (lis ∙ here) ∙ ap (view.Sep (part_at fs i)) (rest_is fs before i rest behind ahead) ∙ star_front (without fs i) (part_at fs i) in
    subst (λ (y : Formula). Moves k (length fs) y (star (in_front fs i)) p) left_is (subst (λ (y : Formula). Moves k (length fs) l1 y p) right_is m)

pub double_done : (k : ℕ) (fs before : List Formula) (i : ℕ) (x rest left right : Formula) (base p : Tree) → i < length fs → x ≡ get_or fs i x → rest ≡ star (drop (suc i) fs) → before ≡ take i fs → left ≡ x → right ≡ view.Sep x rest → Proves Every (entail k (view.Sep x rest) (view.Sep x (view.Sep x rest))) [] 11 (deepest (x ∷ rest ∷ []) [] + 3) k base → Around k (30 * length before + 4) base (star_onto before (left_side base)) (view.Sep left (star_onto before right)) p → Moves k (length fs) (star fs) (star (duplicated fs i)) p
double_done k fs before i x rest left right base p lt at behind ahead lis ris b a =
    let s : Formula = view.Sep x rest in
    let l1 : Formula = star_onto before s in
    let r1 : Formula = view.Sep left (star_onto before right) in
    let a1 : Around k (30 * length before + 4) base l1 r1 p = subst (λ (y : Formula). Around k (30 * length before + 4) base (star_onto before y) r1 p) (base_left k 11 (deepest (x ∷ rest ∷ []) [] + 3) s (view.Sep x s) base b) a in
    let deep : deepest (x ∷ rest ∷ []) [] + 3 ≤ room l1 r1 = omega (arith, depth_sep x rest, onto_deep before s) in
    let total : 11 + (30 * length before + 4) ≤ 100 * (length fs + 1) = omega (arith, ahead_length fs before i lt ahead) in
    let wants : Scopes k l1 r1 s (view.Sep x s) = λ preds e. let h = (scoped_onto preds k before s e.0).1 in (h, sep_scoped preds k x s (scoped_sep preds k x rest h).0 h) in
    let m = built k (30 * length before + 4) 11 (length fs) (deepest (x ∷ rest ∷ []) [] + 3) s (view.Sep x s) l1 r1 base p wants b a1 deep total in
    let here : x ≡ part_at fs i = at_place fs i x lt at in
    let left_is : l1 ≡ star fs = place_is fs before i x rest lt here behind ahead in
    let right_is : r1 ≡ star (duplicated fs i) = ap (λ y. view.Sep y (star_onto before right)) (lis ∙ here) ∙ ap (λ y. view.Sep (part_at fs i) (star_onto before y)) ris ∙ ap (view.Sep (part_at fs i)) left_is ∙ star_front fs (part_at fs i) in
    subst (λ (y : Formula). Moves k (length fs) y (star (duplicated fs i)) p) left_is (subst (λ (y : Formula). Moves k (length fs) l1 y p) right_is m)

pub omit_done : (k : ℕ) (fs before : List Formula) (i : ℕ) (x rest : Formula) (base p : Tree) → i < length fs → x ≡ get_or fs i x → rest ≡ star (drop (suc i) fs) → before ≡ take i fs → Proves Every (entail k (view.Sep x rest) rest) [] 3 (deepest (x ∷ rest ∷ []) [] + 1) k base → IsBehind k before 0 base p → Moves k (length fs) (star fs) (star (without fs i)) p
omit_done k fs before i x rest base p lt at behind ahead b a =
    let s : Formula = view.Sep x rest in
    let l1 : Formula = star_onto before s in
    let r1 : Formula = star_onto before rest in
    let n : ℕ = 2 * (length before - 0) in
    let a1 : Around k n base l1 r1 p = subst (λ (y : Entail). Around k n base (star_onto before y.left) (star_onto before y.right) p) b.concludes a.known in
    let deep : deepest (x ∷ rest ∷ []) [] + 1 ≤ room l1 r1 = omega (arith, depth_sep x rest, onto_deep before s) in
    let total : 3 + n ≤ 100 * (length fs + 1) = omega (arith, ahead_length fs before i lt ahead) in
    let wants : Scopes k l1 r1 s rest = λ preds e. let h = (scoped_onto preds k before s e.0).1 in (h, (scoped_sep preds k x rest h).1) in
    let m = built k n 3 (length fs) (deepest (x ∷ rest ∷ []) [] + 1) s rest l1 r1 base p wants b a1 deep total in
    let left_is : l1 ≡ star fs = place_is fs before i x rest lt (at_place fs i x lt at) behind ahead in
    let right_is : r1 ≡ star (without fs i) = rest_is fs before i rest behind ahead in
    subst (λ (y : Formula). Moves k (length fs) y (star (without fs i)) p) left_is (subst (λ (y : Formula). Moves k (length fs) l1 y p) right_is m)

pub exchange_done : (k : ℕ) (fs before : List Formula) (i : ℕ) (rest : Formula) (by base p : Tree) → i < length fs → left_side by ≡ part_at fs i → rest ≡ star (drop (suc i) fs) → before ≡ take i fs → Around k 2 by (view.Sep (left_side by) rest) (view.Sep (right_side by) rest) base → IsBehind k before 0 base p → MovesBy by k (length fs) (star fs) (star (set fs i (right_side by))) p
exchange_done k fs before i rest by base p lt at behind ahead b a =
    let l : Formula = view.Sep (left_side by) rest in
    let r : Formula = view.Sep (right_side by) rest in
    let l1 : Formula = star_onto before l in
    let r1 : Formula = star_onto before r in
    let n : ℕ = 2 * (length before - 0) in
    let a1 : Around k n base l1 r1 p = subst (λ (y : Entail). Around k n base (star_onto before y.left) (star_onto before y.right) p) b.concludes a.known in
    let deep : room l r ≤ room l1 r1 = omega (arith, onto_deep before l, onto_deep before r) in
    let total : 2 + n ≤ 100 * (length fs + 1) = omega (arith, ahead_length fs before i lt ahead) in
    let wants : Scopes k l1 r1 l r = λ preds e. ((scoped_onto preds k before l e.0).1, (scoped_onto preds k before r e.1).1) in
    let m : MovesBy by k (length fs) l1 r1 p = around_more k 2 n (100 * (length fs + 1)) by base p l r l1 r1 total deep wants b a1 in
    let left_is : l1 ≡ star fs = place_is fs before i (left_side by) rest lt at behind ahead in
    let right_is : r1 ≡ star (set fs i (right_side by)) = ap (λ b. star_onto b r) ahead ∙ ap (λ y. star_onto (take i fs) (view.Sep (right_side by) y)) behind ∙ star_set fs i (right_side by) lt in
    subst (λ (y : Formula). MovesBy by k (length fs) y (star (set fs i (right_side by))) p) left_is (subst (λ (y : Formula). MovesBy by k (length fs) l1 y p) right_is m)

pub split_done : (k n : ℕ) (listed : List ℕ) (fs : List Formula) (base : Tree) (b : Halves) → Proves Every (entail k (Assert pure.True) (view.Sep (Assert pure.True) (Assert pure.True))) [] 1 5 k base → IsSplit k (side_at n listed) fs (record { proof = base; left = Assert pure.True; right = Assert pure.True }) b → Moves k (length fs) (star fs) (dealt n listed fs) b.proof
split_done k n listed fs base b p s =
    let m : ℕ = 30 * length fs + 4 in
    let a1 : Around k m base (star fs) (view.Sep b.left b.right) b.proof = subst (λ (y : Formula). Around k m base (star_onto fs y) (view.Sep b.left b.right) b.proof) (base_left k 1 5 (Assert pure.True) (view.Sep (Assert pure.True) (Assert pure.True)) base p) s.known in
    let deep : 5 ≤ room (star fs) (view.Sep b.left b.right) = omega arith in
    let total : 1 + m ≤ 100 * (length fs + 1) = omega arith in
    let wants : Scopes k (star fs) (view.Sep b.left b.right) (Assert pure.True) (view.Sep (Assert pure.True) (Assert pure.True)) = λ preds e. let h = truth_scoped preds k in (h, sep_scoped preds k (Assert pure.True) (Assert pure.True) h h) in
    let made = built k m 1 (length fs) 5 (Assert pure.True) (view.Sep (Assert pure.True) (Assert pure.True)) (star fs) (view.Sep b.left b.right) base b.proof wants p a1 deep total in
    subst (λ (y : Formula). Moves k (length fs) (star fs) y b.proof) (ap (λ y. view.Sep y b.right) s.left ∙ ap (view.Sep (star (lefts (side_at n listed) 0 fs))) s.right) made
