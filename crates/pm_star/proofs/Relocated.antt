-- A part of a star at another place.
use Rattle.std.proofs.Common.{◌≡◌, ℕ, zero, suc, ◌+◌, ◌-◌, ◌*◌, ◌≤◌, ◌<◌, List, [], ◌∷◌, ◌++◌, length, take, drop, get_or, insert, refl, sym, ap, subst, ◌∙◌, arith, length-drop}
use Rattle.std.proofs.lemmas.List.{take_rest}
use Rattle.pm_logic.specs.declared.formula.Formula.{Formula}
use Rattle.pm_logic.specs.declared.formula.Formula.TheVariants.{Pure as Assert}
use Rattle.pm_logic.specs.declared.formula.Formula.TheViews as view
use Rattle.pm_logic.specs.declared.formula.Pure.TheVariants as pure
use Rattle.pm_goal.specs.Left.{star_onto}
use Rattle.pm_rules.specs.declared.rules.Entail.{Entail}
use Rattle.pm_proof.specs.Trees.{Tree}
use Rattle.pm_star.specs.Stars.{star, part_at, without, in_front, room, Moves}
use Rattle.pm_star.specs.Levels.{Around, IsBehind}
use Rattle.pm_star.specs.Chains.{moved}
use Rattle.pm_star.proofs.Scoping.{Scopes, scoped_onto}
use Rattle.pm_star.proofs.Moving.{star_append, star_parted, onto_deep, taken, at_place, built}
use Rattle.pm_star.proofs.Sunk.{star_cut}

-- a move behind other parts
behind_moves : (k c n : ℕ) (before : List Formula) (l r : Formula) (inner p : Tree) → Moves k c l r inner → IsBehind k before 0 inner p → 100 * (c + 1) + 2 * length before ≤ 100 * (n + 1) → Moves k n (star_onto before l) (star_onto before r) p
behind_moves k c n before l r inner p b s total =
    let m : ℕ = 2 * (length before - 0) in
    let l1 : Formula = star_onto before l in
    let r1 : Formula = star_onto before r in
    let a1 : Around k m inner l1 r1 p = subst (λ (y : Entail). Around k m inner (star_onto before y.left) (star_onto before y.right) p) b.concludes s.known in
    let wants : Scopes k l1 r1 l r = λ preds e. ((scoped_onto preds k before l e.0).1, (scoped_onto preds k before r e.1).1) in
    let deep : room l r ≤ room l1 r1 = omega (arith, onto_deep before l, onto_deep before r) in
    let most : 100 * (c + 1) + m ≤ 100 * (n + 1) = omega (arith, total) in
    built k m (100 * (c + 1)) n (room l r) l r l1 r1 inner p wants b a1 deep most

-- ---- lists

later_list : (fs : List Formula) (i j : ℕ) (x : Formula) → i ≤ j → i < length fs → take i fs ++ insert (drop (suc i) fs) (j - i) x ≡ insert (without fs i) j x
later_list [] i j x le lt = absurd (omega (arith, lt))
later_list (f ∷ fs) zero j x le lt = let same : j - 0 ≡ j = omega arith in ap (λ n. insert fs n x) same
later_list (f ∷ fs) (suc i) zero x le lt = absurd (omega (arith, le))
later_list (f ∷ fs) (suc i) (suc j) x le lt =
    let same : suc j - suc i ≡ j - i = omega arith in
    ap (λ n. f ∷ (take i fs ++ insert (drop (suc i) fs) n x)) same ∙ ap (λ l. f ∷ l) (later_list fs i j x (omega (arith, le)) (omega (arith, lt)))

earlier_list : (fs : List Formula) (i j : ℕ) (x : Formula) → j ≤ i → i < length fs → take j fs ++ x ∷ without (drop j fs) (i - j) ≡ insert (without fs i) j x
earlier_list fs i zero x le lt = let same : i - 0 ≡ i = omega arith in ap (λ n. x ∷ without fs n) same
earlier_list [] i (suc j) x le lt = absurd (omega (arith, lt))
earlier_list (f ∷ fs) zero (suc j) x le lt = absurd (omega (arith, le))
earlier_list (f ∷ fs) (suc i) (suc j) x le lt =
    let same : suc i - suc j ≡ i - j = omega arith in
    ap (λ n. f ∷ (take j fs ++ x ∷ without (drop j fs) n)) same ∙ ap (λ l. f ∷ l) (earlier_list fs i j x (omega (arith, le)) (omega (arith, lt)))

part_behind : (fs : List Formula) (i j : ℕ) → j ≤ i → i < length fs → part_at (drop j fs) (i - j) ≡ part_at fs i
part_behind fs i zero le lt = let same : i - 0 ≡ i = omega arith in ap (part_at fs) same
part_behind [] i (suc j) le lt = absurd (omega (arith, lt))
part_behind (f ∷ fs) zero (suc j) le lt = absurd (omega (arith, le))
part_behind (f ∷ fs) (suc i) (suc j) le lt =
    let same : suc i - suc j ≡ i - j = omega arith in
    ap (part_at (drop j fs)) same ∙ part_behind fs i j (omega (arith, le)) (omega (arith, lt))

-- ---- to a place that is no earlier

pub later_within : (fs mid : List Formula) (i j : ℕ) → i ≤ j → j < length fs → mid ≡ take (length fs - (i + 1)) (drop (i + 1) fs) → j - i ≤ length mid
later_within fs mid i j le lt is = omega (arith, le, lt, ap length (is ∙ take_rest fs (i + 1)), length-drop (i + 1) fs)

pub later_done : (k : ℕ) (fs mid before : List Formula) (i j : ℕ) (x : Formula) (inner p : Tree) → i ≤ j → j < length fs → x ≡ get_or fs i x → mid ≡ take (length fs - (i + 1)) (drop (i + 1) fs) → before ≡ take i fs → Moves k (length mid) (view.Sep x (star mid)) (star (insert mid (j - i) x)) inner → IsBehind k before 0 inner p → Moves k (length fs) (star fs) (star (moved fs i j)) p
later_done k fs mid before i j x inner p le lt at slice ahead m b =
    let here : i < length fs = omega (arith, le, lt) in
    let next : i + 1 ≡ suc i = omega arith in
    let mid_is : mid ≡ drop (suc i) fs = slice ∙ take_rest fs (i + 1) ∙ ap (λ n. drop n fs) next in
    let part : x ≡ part_at fs i = at_place fs i x here at in
    let short : length before ≡ i = ap length ahead ∙ taken fs i (omega (arith, here)) in
    let total : 100 * (length mid + 1) + 2 * length before ≤ 100 * (length fs + 1) = omega (arith, here, short, ap length mid_is, length-drop (suc i) fs) in
    let all = behind_moves k (length mid) (length fs) before (view.Sep x (star mid)) (star (insert mid (j - i) x)) inner p m b total in
    let left_is : star_onto before (view.Sep x (star mid)) ≡ star fs =
    ap (λ z. star_onto z (view.Sep x (star mid))) ahead ∙ ap (λ z. star_onto (take i fs) (view.Sep x (star z))) mid_is ∙ ap (λ y. star_onto (take i fs) (view.Sep y (star (drop (suc i) fs)))) part ∙ star_parted fs i here in
    let right_is : star_onto before (star (insert mid (j - i) x)) ≡ star (moved fs i j) =
    ap (λ z. star_onto z (star (insert mid (j - i) x))) ahead ∙ ap (λ z. star_onto (take i fs) (star (insert z (j - i) x))) mid_is ∙ sym (star_append (take i fs) (insert (drop (suc i) fs) (j - i) x) (Assert pure.True)) ∙ ap star (later_list fs i j x le here) ∙ ap (λ y. star (insert (without fs i) j y)) part in
    subst (λ (y : Formula). Moves k (length fs) y (star (moved fs i j)) p) left_is (subst (λ (y : Formula). Moves k (length fs) (star_onto before (view.Sep x (star mid))) y p) right_is all)

-- ---- to an earlier one

pub earlier_within : (fs tail : List Formula) (i j : ℕ) → j < i → i < length fs → tail ≡ take (length fs - j) (drop j fs) → i - j < length tail
earlier_within fs tail i j lt here is = omega (arith, lt, here, ap length (is ∙ take_rest fs j), length-drop j fs)

pub earlier_done : (k : ℕ) (fs tail before : List Formula) (i j : ℕ) (inner p : Tree) → j < i → i < length fs → tail ≡ take (length fs - j) (drop j fs) → before ≡ take j fs → Moves k (length tail) (star tail) (star (in_front tail (i - j))) inner → IsBehind k before 0 inner p → Moves k (length fs) (star fs) (star (moved fs i j)) p
earlier_done k fs tail before i j inner p lt here slice ahead m b =
    let le : j ≤ i = omega (arith, lt) in
    let tail_is : tail ≡ drop j fs = slice ∙ take_rest fs j in
    let short : length before ≡ j = ap length ahead ∙ taken fs j (omega (arith, lt, here)) in
    let total : 100 * (length tail + 1) + 2 * length before ≤ 100 * (length fs + 1) = omega (arith, lt, here, short, ap length tail_is, length-drop j fs) in
    let all = behind_moves k (length tail) (length fs) before (star tail) (star (in_front tail (i - j))) inner p m b total in
    let left_is : star_onto before (star tail) ≡ star fs = ap (λ z. star_onto z (star tail)) ahead ∙ ap (λ z. star_onto (take j fs) (star z)) tail_is ∙ star_cut fs j in
    let right_is : star_onto before (star (in_front tail (i - j))) ≡ star (moved fs i j) =
    ap (λ z. star_onto z (star (in_front tail (i - j)))) ahead ∙ ap (λ z. star_onto (take j fs) (star (in_front z (i - j)))) tail_is ∙ sym (star_append (take j fs) (in_front (drop j fs) (i - j)) (Assert pure.True)) ∙ ap (λ y. star (take j fs ++ y ∷ without (drop j fs) (i - j))) (part_behind fs i j le here) ∙ ap star (earlier_list fs i j (part_at fs i) le here) in
    subst (λ (y : Formula). Moves k (length fs) y (star (moved fs i j)) p) left_is (subst (λ (y : Formula). Moves k (length fs) (star_onto before (star tail)) y p) right_is all)

-- ---- where it stands

moved_same : (fs : List Formula) (i : ℕ) → i < length fs → moved fs i i ≡ fs
moved_same [] i lt = absurd (omega arith)
moved_same (f ∷ fs) zero lt = refl
moved_same (f ∷ fs) (suc i) lt = ap (λ l. f ∷ l) (moved_same fs i (omega arith))

front_same : (fs : List Formula) → 0 < length fs → in_front fs 0 ≡ fs
front_same [] lt = absurd (omega arith)
front_same (f ∷ fs) lt = refl

pub stay_done : (k n : ℕ) (fs : List Formula) (i : ℕ) (p : Tree) → i < length fs → Moves k n (star fs) (star (in_front fs 0)) p → Moves k n (star fs) (star (moved fs i i)) p
stay_done k n fs i p lt m =
    let same : in_front fs 0 ≡ moved fs i i = front_same fs (omega (arith, lt)) ∙ sym (moved_same fs i lt) in
    subst (λ l. Moves k n (star fs) (star l) p) same m
