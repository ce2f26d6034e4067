-- Two parts of a star for one, and one for two.
use Rattle.std.proofs.Common.{◌≡◌, ℕ, suc, ◌+◌, ◌-◌, ◌*◌, ◌≤◌, ◌<◌, List, [], ◌∷◌, length, take, drop, get_or, sym, ap, subst, ◌∙◌, arith}
use Rattle.std.proofs.lemmas.List.{take_rest}
use Rattle.pm_logic.specs.declared.formula.Formula.{Formula}
use Rattle.pm_logic.specs.declared.formula.Formula.TheVariants.{Pure as Assert}
use Rattle.pm_logic.specs.declared.formula.Formula.TheViews as view
use Rattle.pm_logic.specs.declared.formula.Pure.TheVariants as pure
use Rattle.pm_goal.specs.Left.{star_onto}
use Rattle.pm_goal.specs.declared.work.Work.{Work}
use Rattle.pm_rules.specs.declared.rules.Entail.{Entail}
use Rattle.pm_proof.specs.Trees.{Tree, entail, conclusion}
use Rattle.pm_proof.specs.Known.{Proves, Every, FillExtends}
use Rattle.pm_schemes.specs.Sketches.{deepest}
use Rattle.pm_star.specs.Stars.{star, work_parts, part_at, room, MovesBy}
use Rattle.pm_star.specs.Levels.{Around, IsBehind, right_side}
use Rattle.pm_star.specs.Chains.{paired, joined}
use Rattle.pm_star.proofs.Scoping.{Scopes, depth_sep, scoped_onto}
use Rattle.pm_star.proofs.Leveling.{around}
use Rattle.pm_star.proofs.Walking.{star_drop, around_more}
use Rattle.pm_star.proofs.Moving.{star_append, star_front, onto_deep, at_place, place_is, ahead_length}

-- ---- in front of the rest

pub two_for : (k : ℕ) (x rest p q : Formula) (by step out : Tree) → conclusion by ≡ entail k x (view.Sep p q) → Proves Every (entail k (view.Sep x rest) (view.Sep p (view.Sep q rest))) (entail k x (view.Sep p q) ∷ []) 4 (deepest (x ∷ rest ∷ p ∷ q ∷ []) [] + 2) k step → FillExtends step 0 by out → Around k 4 by (view.Sep x rest) (view.Sep p (view.Sep q rest)) out
two_for k x rest p q by step out is s f =
    let deep : deepest (x ∷ rest ∷ p ∷ q ∷ []) [] + 2 ≤ room (view.Sep x rest) (view.Sep p (view.Sep q rest)) = omega (arith, depth_sep x rest, depth_sep p (view.Sep q rest), depth_sep q rest) in
    around k 4 4 (deepest (x ∷ rest ∷ p ∷ q ∷ []) [] + 2) (entail k x (view.Sep p q)) (view.Sep x rest) (view.Sep p (view.Sep q rest)) by step out s (sym is) f (omega arith) deep

pub one_for : (k : ℕ) (x y rest : Formula) (e : Entail) (by step out : Tree) → e ≡ conclusion by → conclusion by ≡ entail k (view.Sep x y) (right_side by) → Proves Every (entail k (view.Sep x (view.Sep y rest)) (view.Sep e.right rest)) (entail k (view.Sep x y) e.right ∷ []) 4 (deepest (e.right ∷ rest ∷ x ∷ y ∷ []) [] + 2) k step → FillExtends step 0 by out → Around k 4 by (view.Sep x (view.Sep y rest)) (view.Sep (right_side by) rest) out
one_for k x y rest e by step out at is s f =
    let hole : entail k (view.Sep x y) e.right ≡ conclusion by = ap (λ (z : Entail). entail k (view.Sep x y) z.right) at ∙ sym is in
    let deep : deepest (e.right ∷ rest ∷ x ∷ y ∷ []) [] + 2 ≤ room (view.Sep x (view.Sep y rest)) (view.Sep e.right rest) = omega (arith, depth_sep x (view.Sep y rest), depth_sep y rest, depth_sep e.right rest) in
    subst (λ (z : Entail). Around k 4 by (view.Sep x (view.Sep y rest)) (view.Sep z.right rest) out) at
    (around k 4 4 (deepest (e.right ∷ rest ∷ x ∷ y ∷ []) [] + 2) (entail k (view.Sep x y) e.right) (view.Sep x (view.Sep y rest)) (view.Sep e.right rest) by step out s hole f (omega arith) deep)

-- ---- behind the parts before

behind_by : (k n : ℕ) (before : List Formula) (l r : Formula) (by base p : Tree) → length before ≤ n → Around k 4 by l r base → IsBehind k before 0 base p → MovesBy by k n (star_onto before l) (star_onto before r) p
behind_by k n before l r by base p short b a =
    let l1 : Formula = star_onto before l in
    let r1 : Formula = star_onto before r in
    let m : ℕ = 2 * (length before - 0) in
    let a1 : Around k m base l1 r1 p = subst (λ (y : Entail). Around k m base (star_onto before y.left) (star_onto before y.right) p) b.concludes a.known in
    let deep : room l r ≤ room l1 r1 = omega (arith, onto_deep before l, onto_deep before r) in
    let total : 4 + m ≤ 100 * (n + 1) = omega (arith, short) in
    let wants : Scopes k l1 r1 l r = λ preds e. ((scoped_onto preds k before l e.0).1, (scoped_onto preds k before r e.1).1) in
    around_more k 4 m (100 * (n + 1)) by base p l r l1 r1 total deep wants b a1

-- the part is the one at the place
pub place_proof : (k : ℕ) (fs : List Formula) (i : ℕ) (x r : Formula) (by : Tree) → i < length fs → x ≡ get_or fs i x → conclusion by ≡ entail k (part_at fs i) r → conclusion by ≡ entail k x r
place_proof k fs i x r by lt at is = is ∙ ap (λ y. entail k y r) (sym (at_place fs i x lt at))

pub places_proof : (k : ℕ) (fs : List Formula) (i j : ℕ) (x y r : Formula) (by : Tree) → i < length fs → j < length fs → x ≡ get_or fs i x → y ≡ get_or fs j y → conclusion by ≡ entail k (view.Sep (part_at fs i) (part_at fs j)) r → conclusion by ≡ entail k (view.Sep x y) r
places_proof k fs i j x y r by lt lt2 at at2 is = is ∙ ap (λ z. entail k (view.Sep z (part_at fs j)) r) (sym (at_place fs i x lt at)) ∙ ap (λ z. entail k (view.Sep x z) r) (sym (at_place fs j y lt2 at2))

pub paired_done : (k : ℕ) (fs before : List Formula) (i : ℕ) (x rest p q : Formula) (by base out : Tree) → i < length fs → x ≡ get_or fs i x → rest ≡ star (drop (suc i) fs) → before ≡ take i fs → Around k 4 by (view.Sep x rest) (view.Sep p (view.Sep q rest)) base → IsBehind k before 0 base out → MovesBy by k (length fs) (star fs) (star (paired fs i p q)) out
paired_done k fs before i x rest p q by base out lt at behind ahead b a =
    let l : Formula = view.Sep x rest in
    let r : Formula = view.Sep p (view.Sep q rest) in
    let m = behind_by k (length fs) before l r by base out (ahead_length fs before i lt ahead) b a in
    let left_is : star_onto before l ≡ star fs = place_is fs before i x rest lt (at_place fs i x lt at) behind ahead in
    let ss : List Formula = drop (suc i) fs in
    let right_is : star_onto before r ≡ star (paired fs i p q) =
    ap (λ z. star_onto z r) ahead ∙ ap (λ z. star_onto (take i fs) (view.Sep p (view.Sep q z))) behind ∙ ap (λ z. star_onto (take i fs) (view.Sep p z)) (star_front ss q) ∙ ap (star_onto (take i fs)) (star_front (q ∷ ss) p) ∙ sym (star_append (take i fs) (p ∷ q ∷ ss) (Assert pure.True)) in
    subst (λ (y : Formula). MovesBy by k (length fs) y (star (paired fs i p q)) out) left_is (subst (λ (y : Formula). MovesBy by k (length fs) (star_onto before l) y out) right_is m)

-- a slice from behind the next place on
pub behind_two : (fs : List Formula) (i : ℕ) (rest : Formula) → rest ≡ star (take (length fs - (i + 2)) (drop (i + 2) fs)) → rest ≡ star (drop (suc (suc i)) fs)
behind_two fs i rest is =
    let next : i + 2 ≡ suc (suc i) = omega arith in
    is ∙ ap star (take_rest fs (i + 2)) ∙ ap (λ n. star (drop n fs)) next

pub joined_done : (k : ℕ) (fs before : List Formula) (i j : ℕ) (x y rest : Formula) (by base out : Tree) → j ≡ i + 1 → j < length fs → x ≡ get_or fs i x → y ≡ get_or fs j y → rest ≡ star (drop (suc (suc i)) fs) → before ≡ take i fs → Around k 4 by (view.Sep x (view.Sep y rest)) (view.Sep (right_side by) rest) base → IsBehind k before 0 base out → MovesBy by k (length fs) (star fs) (star (joined fs i (right_side by))) out
joined_done k fs before i j x y rest by base out next lt at at2 behind ahead b a =
    let here : i < length fs = omega (arith, next, lt) in
    let second : suc i < length fs = omega (arith, next, lt) in
    let same : j ≡ suc i = omega (arith, next) in
    let at3 : y ≡ get_or fs (suc i) y = at2 ∙ ap (λ n. get_or fs n y) same in
    let r : Formula = right_side by in
    let l1 : Formula = view.Sep x (view.Sep y rest) in
    let r1 : Formula = view.Sep r rest in
    let m = behind_by k (length fs) before l1 r1 by base out (ahead_length fs before i here ahead) b a in
    let tail_is : view.Sep y rest ≡ star (drop (suc i) fs) = ap (view.Sep y) behind ∙ sym (star_drop fs (suc i) y (Assert pure.True) second at3) in
    let left_is : star_onto before l1 ≡ star fs = place_is fs before i x (view.Sep y rest) here (at_place fs i x here at) tail_is ahead in
    let ss : List Formula = drop (suc (suc i)) fs in
    let right_is : star_onto before r1 ≡ star (joined fs i r) =
    ap (λ z. star_onto z r1) ahead ∙ ap (λ z. star_onto (take i fs) (view.Sep r z)) behind ∙ ap (star_onto (take i fs)) (star_front ss r) ∙ sym (star_append (take i fs) (r ∷ ss) (Assert pure.True)) in
    subst (λ (z : Formula). MovesBy by k (length fs) z (star (joined fs i r)) out) left_is (subst (λ (z : Formula). MovesBy by k (length fs) (star_onto before l1) z out) right_is m)

-- ---- of a work

pub of_part : (work : Work) (k : ℕ) (fs : List Formula) (i : ℕ) (r : Formula) (by : Tree) → fs ≡ work_parts work → k ≡ length work.goal.vars → conclusion by ≡ entail (length work.goal.vars) (part_at (work_parts work) i) r → conclusion by ≡ entail k (part_at fs i) r
of_part work k fs i r by is vars at = at ∙ ap (λ n. entail n (part_at (work_parts work) i) r) (sym vars) ∙ ap (λ (gs : List Formula). entail k (part_at gs i) r) (sym is)

pub of_parts : (work : Work) (k : ℕ) (fs : List Formula) (i j : ℕ) (r : Formula) (by : Tree) → fs ≡ work_parts work → k ≡ length work.goal.vars → conclusion by ≡ entail (length work.goal.vars) (view.Sep (part_at (work_parts work) i) (part_at (work_parts work) j)) r → conclusion by ≡ entail k (view.Sep (part_at fs i) (part_at fs j)) r
of_parts work k fs i j r by is vars at = at ∙ ap (λ n. entail n (view.Sep (part_at (work_parts work) i) (part_at (work_parts work) j)) r) (sym vars) ∙ ap (λ (gs : List Formula). entail k (view.Sep (part_at gs i) (part_at gs j)) r) (sym is)
