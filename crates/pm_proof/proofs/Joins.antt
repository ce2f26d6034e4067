-- What is known of the proof that steps make.
use Rattle.std.proofs.Common.{ℕ, zero, suc, ◌+◌, ◌≡◌, ◌≤◌, subst, sym, ap, refl, ◌∙◌, arith, List, [], ◌∷◌, ◌++◌, length, take, drop, map, reverse, slice_get, Some, append_assoc, length-append}
use Rattle.std.proofs.lemmas.List.{take-append-drop, length-take-le, take_at, drop_at, take-map, map-append, length-map, reverse-append, length-reverse}
use Rattle.std.proofs.lemmas.List.Sums.{sum_by-cons, sum_by-take-drop}
use Rattle.std.specs.List.{AllByRecursion, flat_map, sum_by, drop-map}
use Rattle.pm_rules.specs.declared.rules.Entail.{Entail}
use Rattle.pm_proof.specs.Trees.{Tree, conclusion, holes_of, hole_count, rules, depth, variables, filled, splice}
use Rattle.pm_proof.specs.Valid.{Valid, IsScoped}
use Rattle.pm_proof.specs.declared.joining.Step.{Step}
use Rattle.pm_proof.specs.Joins.{goals_of, lemmas_of, Leads, filled_from, joined, used, Joins}
use Rattle.pm_proof.proofs.Counts.{counted}
use Rattle.pm_proof.proofs.Fills.{fills, fills_valid, fills_scoped, all_both}

-- ---- one step more, and one step less

head_same : (x y : Entail) (xs ys : List Entail) → x ∷ xs ≡ y ∷ ys → x ≡ y
head_same x y xs ys h = cc

tail_same : (x y : Entail) (xs ys : List Entail) → x ∷ xs ≡ y ∷ ys → xs ≡ ys
tail_same x y xs ys h = cc

not_empty : (x : Entail) (xs : List Entail) → [] ≡ x ∷ xs → ⊥
not_empty x xs h = cc

pub leads_more : (gs : List Entail) (ss : List Step) (s : Step) (g : Entail) (left : List Entail) → Leads gs ss (g ∷ left) → conclusion s.proof ≡ g → s.goals ≤ hole_count s.proof → Leads gs (ss ++ s ∷ []) (goals_of s ++ left)
leads_more [] [] s g left h c n = absurd (not_empty g left h)
leads_more (x ∷ gs) [] s g left h c n = (c ∙ sym (head_same x g gs left h), n, ap (λ l. goals_of s ++ l) (tail_same x g gs left h))
leads_more [] (z ∷ ss) s g left h c n = absurd h
leads_more (x ∷ gs) (z ∷ ss) s g left h c n = (h.0, h.1, leads_more (goals_of z ++ gs) ss s g left h.2 c n)

-- the goals that were left before the last step
pub record Before (gs : List Entail) (ss : List Step) (s : Step) (left : List Entail) : Type 0 where
  pub rest : List Entail
  pub leads : Leads gs ss (conclusion s.proof ∷ rest)
  pub few : s.goals ≤ hole_count s.proof
  pub is : left ≡ goals_of s ++ rest

pub leads_less : (gs : List Entail) (ss : List Step) (s : Step) (left : List Entail) → Leads gs (ss ++ s ∷ []) left → Before gs ss s left
leads_less [] [] s left h = absurd h
leads_less (x ∷ gs) [] s left h = record { rest = gs; leads = ap (λ y. y ∷ gs) (sym h.0); few = h.1; is = sym h.2 }
leads_less [] (z ∷ ss) s left h = absurd h
leads_less (x ∷ gs) (z ∷ ss) s left h =
    let b = leads_less (goals_of z ++ gs) ss s left h.2 in
    record { rest = b.rest; leads = (h.0, h.1, b.leads); few = b.few; is = b.is }

-- ---- trees at a hole and the next ones

pub filled_from_last : (t : Tree) (i : ℕ) (xs : List Tree) (x : Tree) → filled_from t i (xs ++ x ∷ []) ≡ filled_from (filled t (i + length xs) x) i xs
filled_from_last t i [] x = let e : i ≡ i + 0 = omega arith in ap (λ j. filled t j x) e
filled_from_last t i (y ∷ xs) x =
    let e : suc i + length xs ≡ i + suc (length xs) = omega arith in
    ap (λ u. filled u i y) (filled_from_last t (suc i) xs x ∙ ap (λ j. filled_from (filled t j x) (suc i) xs) e)

splice_at : (before : List Entail) (c : Entail) (rest zs : List Entail) → splice (before ++ c ∷ rest) (length before) zs ≡ before ++ (zs ++ rest)
splice_at [] c rest zs = refl
splice_at (b ∷ bs) c rest zs = ap (λ l. b ∷ l) (splice_at bs c rest zs)

pub get_at : (before : List Entail) (c : Entail) (rest : List Entail) → slice_get (before ++ c ∷ rest) (length before) ≡ Some c
get_at [] c rest = refl
get_at (b ∷ bs) c rest = get_at bs c rest

record FilledFrom (t : Tree) (before : List Entail) (xs : List Tree) (after : List Entail) (y : Tree) : Type 0 where
  concludes : conclusion y ≡ conclusion t
  holes : holes_of y ≡ before ++ (flat_map holes_of xs ++ after)
  size : rules y ≡ rules t + sum_by rules xs

one_longer : (before : List Entail) (c : Entail) → length (before ++ c ∷ []) ≡ suc (length before)
one_longer before c = let e = length-append before (c ∷ []) in omega (arith, e)

-- the first hole is passed
passed : (t : Tree) (before : List Entail) (x : Tree) (xs : List Tree) (after : List Entail) → holes_of t ≡ before ++ (map conclusion (x ∷ xs) ++ after) → holes_of t ≡ (before ++ conclusion x ∷ []) ++ (map conclusion xs ++ after)
passed t before x xs after h = h ∙ sym (append_assoc before (conclusion x ∷ []) (map conclusion xs ++ after))

-- it is still there when those after it are filled
there : (t : Tree) (before : List Entail) (x : Tree) (xs : List Tree) (after : List Entail) → FilledFrom t (before ++ conclusion x ∷ []) xs after (filled_from t (length (before ++ conclusion x ∷ [])) xs) → holes_of (filled_from t (suc (length before)) xs) ≡ before ++ (conclusion x ∷ (flat_map holes_of xs ++ after))
there t before x xs after f =
    ap (λ j. holes_of (filled_from t j xs)) (sym (one_longer before (conclusion x))) ∙ f.holes ∙ append_assoc before (conclusion x ∷ []) (flat_map holes_of xs ++ after)

at_place : (u : Tree) (before : List Entail) (c : Entail) (rest : List Entail) → holes_of u ≡ before ++ (c ∷ rest) → slice_get (holes_of u) (length before) ≡ Some c
at_place u before c rest h = ap (λ l. slice_get l (length before)) h ∙ get_at before c rest

fills_from : (t : Tree) (before : List Entail) (xs : List Tree) (after : List Entail) → holes_of t ≡ before ++ (map conclusion xs ++ after) → FilledFrom t before xs after (filled_from t (length before) xs)
fills_from t before [] after h = record { concludes = refl; holes = h; size = omega arith }
fills_from t before (x ∷ xs) after h =
    let f = fills_from t (before ++ conclusion x ∷ []) xs after (passed t before x xs after h) in
    let u = filled_from t (suc (length before)) xs in
    let rest = flat_map holes_of xs ++ after in
    let same : filled_from t (length (before ++ conclusion x ∷ [])) xs ≡ u = ap (λ j. filled_from t j xs) (one_longer before (conclusion x)) in
    let here : holes_of u ≡ before ++ (conclusion x ∷ rest) = there t before x xs after f in
    let g = fills u (length before) x (at_place u before (conclusion x) rest here) in
    let sizes : rules u ≡ rules t + sum_by rules xs = ap rules (sym same) ∙ f.size in
    let sum = sum_by-cons rules x xs in
    record {
      concludes = g.concludes ∙ ap conclusion (sym same) ∙ f.concludes;
      holes = g.holes ∙ ap (λ l. splice l (length before) (holes_of x)) here ∙ splice_at before (conclusion x) rest (holes_of x) ∙ ap (λ l. before ++ l) (sym (append_assoc (holes_of x) (flat_map holes_of xs) after));
      size = omega (arith, g.size, sizes, sum);
    }

-- what a filled tree has where both have it
abbrev IsKept : (Tree → Type 0) → Type 0
IsKept P = (t : Tree) (i : ℕ) (x : Tree) → slice_get (holes_of t) i ≡ Some (conclusion x) → P t → P x → P (filled t i x)

from_all : (P : Tree → Type 0) → IsKept P → (t : Tree) (before : List Entail) (xs : List Tree) (after : List Entail) → holes_of t ≡ before ++ (map conclusion xs ++ after) → P t → AllByRecursion P xs → P (filled_from t (length before) xs)
from_all P by t before [] after h p ps = p
from_all P by t before (x ∷ xs) after h p ps =
    let next = passed t before x xs after h in
    let u = filled_from t (suc (length before)) xs in
    let here : holes_of u ≡ before ++ (conclusion x ∷ (flat_map holes_of xs ++ after)) = there t before x xs after (fills_from t (before ++ conclusion x ∷ []) xs after next) in
    let q : P u = subst (λ j. P (filled_from t j xs)) (one_longer before (conclusion x)) (from_all P by t (before ++ conclusion x ∷ []) xs after next p ps.1) in
    by u (length before) x (at_place u before (conclusion x) (flat_map holes_of xs ++ after) here) q ps.0

-- ---- the proofs of the goals that steps prove

all_take : (P : Tree → Type 0) (n : ℕ) (xs : List Tree) → AllByRecursion P xs → AllByRecursion P (take n xs)
all_take P zero xs a = tt
all_take P (suc n) [] a = tt
all_take P (suc n) (x ∷ xs) a = (a.0, all_take P n xs a.1)

all_drop : (P : Tree → Type 0) (n : ℕ) (xs : List Tree) → AllByRecursion P xs → AllByRecursion P (drop n xs)
all_drop P zero xs a = a
all_drop P (suc n) [] a = tt
all_drop P (suc n) (x ∷ xs) a = all_drop P n xs a.1

flat_holes : (xs : List Tree) → flat_map holes_of xs ≡ flat_map (λ es. es) (map holes_of xs)
flat_holes [] = refl
flat_holes (x ∷ xs) = ap (λ l. holes_of x ++ l) (flat_holes xs)

-- the goals that a step leaves are as many as it says
goals_length : (s : Step) → s.goals ≤ hole_count s.proof → length (goals_of s) ≡ s.goals
goals_length s n = length-take-le s.goals (holes_of s.proof) (rw (counted s.proof) n)

first_goals : (s : Step) (gs : List Entail) (ts : List Tree) → s.goals ≤ hole_count s.proof → map conclusion ts ≡ goals_of s ++ gs → map conclusion (take s.goals ts) ≡ goals_of s
first_goals s gs ts n h = sym (take-map conclusion s.goals ts) ∙ ap (take s.goals) h ∙ take_at (goals_of s) gs s.goals (goals_length s n)

pub other_goals : (s : Step) (gs : List Entail) (ts : List Tree) → s.goals ≤ hole_count s.proof → map conclusion ts ≡ goals_of s ++ gs → map conclusion (drop s.goals ts) ≡ gs
other_goals s gs ts n h = sym (drop-map conclusion s.goals ts) ∙ ap (drop s.goals) h ∙ drop_at (goals_of s) gs s.goals (goals_length s n)

-- its first holes are what the proofs of its goals prove
pub first_holes : (s : Step) (gs : List Entail) (ts : List Tree) → s.goals ≤ hole_count s.proof → map conclusion ts ≡ goals_of s ++ gs → holes_of s.proof ≡ map conclusion (take s.goals ts) ++ lemmas_of s
first_holes s gs ts n h = sym (take-append-drop s.goals (holes_of s.proof)) ∙ ap (λ l. l ++ lemmas_of s) (sym (first_goals s gs ts n h))

-- there is a proof for each of them
pub goals_there : (s : Step) (gs : List Entail) (ts : List Tree) → s.goals ≤ hole_count s.proof → map conclusion ts ≡ goals_of s ++ gs → s.goals ≤ length ts
goals_there s gs ts n h =
    let a = length-map ts conclusion in
    let b = ap length h ∙ length-append (goals_of s) gs in
    omega (arith, a, b, goals_length s n)

record Known (gs : List Entail) (ss : List Step) : Type 0 where
  concludes : map conclusion (joined ss) ≡ gs
  holes : map holes_of (joined ss) ≡ used ss
  size : sum_by rules (joined ss) ≡ sum_by (λ s. rules s.proof) ss

goals_known : (gs : List Entail) (ss : List Step) → Leads gs ss [] → Known gs ss
goals_known gs [] h = record { concludes = sym h; holes = refl; size = refl }
goals_known [] (s ∷ ss) h = absurd h
goals_known (g ∷ gs) (s ∷ ss) h =
    let k = goals_known (goals_of s ++ gs) ss h.2 in
    let us = take s.goals (joined ss) in
    let ts = drop s.goals (joined ss) in
    let f = fills_from s.proof [] us (lemmas_of s) (first_holes s gs (joined ss) h.1 k.concludes) in
    let whole = filled_from s.proof 0 us in
    let inner : flat_map holes_of us ≡ flat_map (λ es. es) (take s.goals (used ss)) = flat_holes us ∙ ap (flat_map (λ es. es)) (sym (take-map holes_of s.goals (joined ss)) ∙ ap (take s.goals) k.holes) in
    let others : map holes_of ts ≡ drop s.goals (used ss) = sym (drop-map holes_of s.goals (joined ss)) ∙ ap (drop s.goals) k.holes in
    let sums = sum_by-cons rules whole ts in
    let steps = sum_by-cons (λ (s : Step). rules s.proof) s ss in
    let both = sum_by-take-drop rules (joined ss) s.goals in
    record {
      concludes = ap (λ y. y ∷ map conclusion ts) (f.concludes ∙ h.0) ∙ ap (λ l. g ∷ l) (other_goals s gs (joined ss) h.1 k.concludes);
      holes = ap (λ l. l ∷ map holes_of ts) (f.holes ∙ ap (λ l. l ++ lemmas_of s) inner) ∙ ap (λ l. (flat_map (λ es. es) (take s.goals (used ss)) ++ lemmas_of s) ∷ l) others;
      size = omega (arith, sums, steps, both, f.size, k.size);
    }

joined_all : (P : Tree → Type 0) → IsKept P → (gs : List Entail) (ss : List Step) → Leads gs ss [] → AllByRecursion (λ s. P s.proof) ss → AllByRecursion P (joined ss)
joined_all P by gs [] h a = tt
joined_all P by [] (s ∷ ss) h a = absurd h
joined_all P by (g ∷ gs) (s ∷ ss) h a =
    let all = joined_all P by (goals_of s ++ gs) ss h.2 a.1 in
    let k = goals_known (goals_of s ++ gs) ss h.2 in
    (from_all P by s.proof [] (take s.goals (joined ss)) (lemmas_of s) (first_holes s gs (joined ss) h.1 k.concludes) a.0 (all_take P s.goals (joined ss) all), all_drop P s.goals (joined ss) all)

-- of one
only_one : (P : Tree → Type 0) → IsKept P → (g : Entail) (ss : List Step) (t : Tree) → Leads (g ∷ []) ss [] → joined ss ≡ t ∷ [] → AllByRecursion (λ s. P s.proof) ss → P t
only_one P by g ss t h is a = let all = subst (AllByRecursion P) is (joined_all P by (g ∷ []) ss h a) in all.0

pub joins : (g : Entail) (ss : List Step) (t : Tree) → Leads (g ∷ []) ss [] → joined ss ≡ t ∷ [] → Joins ss t
joins g ss t h is =
    let k = goals_known (g ∷ []) ss h in
    let sum : sum_by rules (t ∷ []) ≡ sum_by (λ s. rules s.proof) ss = ap (sum_by rules) (sym is) ∙ k.size in
    record {
      concludes = λ e leads. head_same (conclusion t) e [] [] (ap (map conclusion) (sym is) ∙ (goals_known (e ∷ []) ss leads).concludes);
      holes = sym k.holes ∙ ap (map holes_of) is;
      valid = λ preds. only_one (Valid preds) (fills_valid preds) g ss t h is;
      scoped = λ preds. only_one (IsScoped preds) (fills_scoped preds) g ss t h is;
      size = omega (arith, sum);
      shallow = λ d. only_one (λ x. depth x ≤ d) (λ u i x get p q. let f = fills u i x get in omega (arith, f.shallow, p, q)) g ss t h is;
      narrow = λ k. only_one (λ x. variables x ≤ k) (λ u i x get p q. let f = fills u i x get in omega (arith, f.narrow, p, q)) g ss t h is;
    }

-- whatever holds of the lemmas of each step holds of those that the proof uses
pub all_used : (P : Entail → Type 0) (ss : List Step) → AllByRecursion (λ s. AllByRecursion P (lemmas_of s)) ss → AllByRecursion (AllByRecursion P) (used ss)
all_used P [] a = tt
all_used P (s ∷ ss) a =
    let all = all_used P ss a.1 in
    (all_both P (flat_map (λ es. es) (take s.goals (used ss))) (lemmas_of s) (flat_all (take s.goals (used ss)) (lists_take s.goals (used ss) all)) a.0, lists_drop s.goals (used ss) all)
  where
    lists_take : (n : ℕ) (xs : List (List Entail)) → AllByRecursion (AllByRecursion P) xs → AllByRecursion (AllByRecursion P) (take n xs)
    lists_take zero xs a = tt
    lists_take (suc n) [] a = tt
    lists_take (suc n) (x ∷ xs) a = (a.0, lists_take n xs a.1)

    lists_drop : (n : ℕ) (xs : List (List Entail)) → AllByRecursion (AllByRecursion P) xs → AllByRecursion (AllByRecursion P) (drop n xs)
    lists_drop zero xs a = a
    lists_drop (suc n) [] a = tt
    lists_drop (suc n) (x ∷ xs) a = lists_drop n xs a.1

    flat_all : (xs : List (List Entail)) → AllByRecursion (AllByRecursion P) xs → AllByRecursion P (flat_map (λ es. es) xs)
    flat_all [] a = tt
    flat_all (x ∷ xs) a = all_both P x (flat_map (λ es. es) xs) a.0 (flat_all xs a.1)

pub holes_all : (P : Entail → Type 0) (ss : List Step) (t : Tree) → Joins ss t → AllByRecursion (λ s. AllByRecursion P (lemmas_of s)) ss → AllByRecursion P (holes_of t)
holes_all P ss t j a = let all = subst (AllByRecursion (AllByRecursion P)) j.holes (all_used P ss a) in all.0

-- ---- by a loop from the last step back

-- the proofs of the goals before the steps, from those of the goals after them
abbrev pub joined_onto : List Tree → List Step → List Tree
joined_onto ts [] = ts
joined_onto ts (s ∷ ss) = filled_from s.proof 0 (take s.goals (joined_onto ts ss)) ∷ drop s.goals (joined_onto ts ss)

pub onto_last : (ts : List Tree) (ss : List Step) (s : Step) → joined_onto ts (ss ++ s ∷ []) ≡ joined_onto (filled_from s.proof 0 (take s.goals ts) ∷ drop s.goals ts) ss
onto_last ts [] s = refl
onto_last ts (z ∷ ss) s = ap (λ l. filled_from z.proof 0 (take z.goals l) ∷ drop z.goals l) (onto_last ts ss s)

pub onto_none : (ss : List Step) → joined_onto [] ss ≡ joined ss
onto_none [] = refl
onto_none (s ∷ ss) = ap (λ l. filled_from s.proof 0 (take s.goals l) ∷ drop s.goals l) (onto_none ss)

-- the last one of a list that is kept the other way round
last_first : (ts : List Tree) (t : Tree) → reverse (ts ++ t ∷ []) ≡ t ∷ reverse ts
last_first ts t = reverse-append ts (t ∷ [])

-- a step that is taken from the end, the proofs of the goals that it leaves, and those that are left
pub record Taken (gs : List Entail) (ss : List Step) (s : Step) (finished us rest : List Tree) : Type 0 where
  pub leads : Leads gs (ss ++ s ∷ []) (map conclusion (reverse finished))
  pub count : length us ≡ s.goals
  pub order : reverse finished ≡ us ++ reverse rest

pub enough : (gs : List Entail) (ss : List Step) (s : Step) (finished : List Tree) → Leads gs (ss ++ s ∷ []) (map conclusion (reverse finished)) → s.goals ≤ length finished
enough gs ss s finished h =
    let b = leads_less gs ss s (map conclusion (reverse finished)) h in
    let n = length-reverse finished in
    omega (arith, n, goals_there s b.rest (reverse finished) b.few b.is)

first_ones : (gs : List Entail) (ss : List Step) (s : Step) (finished us rest : List Tree) → Taken gs ss s finished us rest → take s.goals (reverse finished) ≡ us
first_ones gs ss s finished us rest k = ap (take s.goals) k.order ∙ take_at us (reverse rest) s.goals k.count

other_ones : (gs : List Entail) (ss : List Step) (s : Step) (finished us rest : List Tree) → Taken gs ss s finished us rest → drop s.goals (reverse finished) ≡ reverse rest
other_ones gs ss s finished us rest k = ap (drop s.goals) k.order ∙ drop_at us (reverse rest) s.goals k.count

pub fitting : (gs : List Entail) (ss : List Step) (s : Step) (finished us rest : List Tree) → Taken gs ss s finished us rest → holes_of s.proof ≡ map conclusion us ++ lemmas_of s
fitting gs ss s finished us rest k =
    let b = leads_less gs ss s (map conclusion (reverse finished)) k.leads in
    first_holes s b.rest (reverse finished) b.few b.is ∙ ap (λ l. map conclusion l ++ lemmas_of s) (first_ones gs ss s finished us rest k)

-- the proof of its goal takes their place
pub taken_leads : (gs : List Entail) (ss : List Step) (s : Step) (finished us rest : List Tree) (w : Tree) → Taken gs ss s finished us rest → w ≡ filled_from s.proof 0 us → Leads gs ss (map conclusion (reverse (rest ++ w ∷ [])))
taken_leads gs ss s finished us rest w k is =
    let b = leads_less gs ss s (map conclusion (reverse finished)) k.leads in
    let f = fills_from s.proof [] us (lemmas_of s) (fitting gs ss s finished us rest k) in
    let others : map conclusion (reverse rest) ≡ b.rest = ap (map conclusion) (sym (other_ones gs ss s finished us rest k)) ∙ other_goals s b.rest (reverse finished) b.few b.is in
    let same : conclusion w ≡ conclusion s.proof = ap conclusion is ∙ f.concludes in
    subst (Leads gs ss) (ap (λ l. conclusion s.proof ∷ l) (sym others) ∙ ap (λ e. e ∷ map conclusion (reverse rest)) (sym same) ∙ ap (map conclusion) (sym (last_first rest w))) b.leads

pub taken_tree : (gs : List Entail) (ss : List Step) (s : Step) (finished us rest : List Tree) (w : Tree) → Taken gs ss s finished us rest → w ≡ filled_from s.proof 0 us → joined_onto (reverse (rest ++ w ∷ [])) ss ≡ joined_onto (reverse finished) (ss ++ s ∷ [])
taken_tree gs ss s finished us rest w k is =
    ap (λ l. joined_onto l ss) (last_first rest w ∙ ap (λ t. t ∷ reverse rest) (is ∙ ap (filled_from s.proof 0) (sym (first_ones gs ss s finished us rest k))) ∙ ap (λ l. filled_from s.proof 0 (take s.goals (reverse finished)) ∷ l) (sym (other_ones gs ss s finished us rest k))) ∙ sym (onto_last (reverse finished) ss s)

none_left : (g : Entail) (w : Tree) (ts : List Tree) → g ∷ [] ≡ map conclusion (w ∷ ts) → ts ≡ []
none_left g w [] h = refl
none_left g w (t ∷ ts) h = absurd (not_empty (conclusion t) (map conclusion ts) (tail_same g (conclusion w) [] (map conclusion (t ∷ ts)) h))

-- where no step is left, one proof is
pub last_one : (g : Entail) (rest : List Tree) (w : Tree) → Leads (g ∷ []) [] (map conclusion (reverse (rest ++ w ∷ []))) → reverse (rest ++ w ∷ []) ≡ w ∷ []
last_one g rest w h = last_first rest w ∙ ap (λ l. w ∷ l) (none_left g w (reverse rest) (h ∙ ap (map conclusion) (last_first rest w)))

-- ---- holes filled from the last one back

pub record LastFilled (t : Tree) (n : ℕ) (rest : List Tree) (x : Tree) (others : List Entail) : Type 0 where
  pub there : slice_get (holes_of t) n ≡ Some (conclusion x)
  pub holes : holes_of (filled t n x) ≡ map conclusion rest ++ (holes_of x ++ others)
  pub tree : filled_from (filled t n x) 0 rest ≡ filled_from t 0 (rest ++ x ∷ [])

pub last_filled : (t : Tree) (n : ℕ) (rest : List Tree) (x : Tree) (others : List Entail) → n ≡ length rest → holes_of t ≡ map conclusion (rest ++ x ∷ []) ++ others → LastFilled t n rest x others
last_filled t n rest x others is h =
    let before = map conclusion rest in
    let place : length before ≡ n = length-map rest conclusion ∙ sym is in
    let here : holes_of t ≡ before ++ (conclusion x ∷ others) = h ∙ ap (λ l. l ++ others) (map-append conclusion rest (x ∷ [])) ∙ append_assoc before (conclusion x ∷ []) others in
    let get : slice_get (holes_of t) n ≡ Some (conclusion x) = ap (slice_get (holes_of t)) (sym place) ∙ at_place t before (conclusion x) others here in
    let f = fills t n x get in
    let at : 0 + length rest ≡ n = omega (arith, is) in
    record {
      there = get;
      holes = f.holes ∙ ap (λ l. splice l n (holes_of x)) here ∙ ap (λ j. splice (before ++ (conclusion x ∷ others)) j (holes_of x)) (sym place) ∙ splice_at before (conclusion x) others (holes_of x);
      tree = ap (λ j. filled_from (filled t j x) 0 rest) (sym at) ∙ sym (filled_from_last t 0 rest x);
    }
