-- The star of a goal is that of its parts.
use Rattle.std.proofs.Common.{◌≡◌, ℕ, zero, suc, ◌+◌, ◌*◌, ◌<◌, ◌≤◌, inl, inr, Some, option_map, List, [], ◌∷◌, ◌++◌, length, slice_get, refl, sym, ap, subst, ◌∙◌, arith}
use Rattle.std.proofs.lemmas.List.{get_or_append_left, length-append}
use Rattle.pm_logic.specs.declared.formula.Formula.{Formula}
use Rattle.pm_logic.specs.declared.formula.Formula.TheVariants.{Pure as Assert}
use Rattle.pm_logic.specs.declared.formula.Pure.TheVariants as pure
use Rattle.pm_goal.specs.declared.goal.Hyp.{Hyp}
use Rattle.pm_goal.specs.declared.goal.Fact.{Fact}
use Rattle.pm_goal.specs.declared.goal.Goal.{Goal}
use Rattle.pm_goal.specs.declared.work.Held.{Held}
use Rattle.pm_goal.specs.declared.work.Work.{Work}
use Rattle.pm_goal.specs.declared.work.Kind.{Kind}
use Rattle.pm_goal.specs.declared.work.Kind.TheVariants as kind
use Rattle.pm_goal.specs.Left.{star_onto, of_kind, facts, hyps_as, hyps, held_parts, left_onto, left_of, left_of_work}
use Rattle.pm_proof.specs.Trees.{Tree, entail}
use Rattle.pm_proof.specs.Known.{Every}
use Rattle.pm_proof.proofs.Fills.{weaker}
use Rattle.pm_logic.specs.declared.formula.Formula.TheViews as view
use Rattle.pm_star.specs.Stars.{star, shared, parts, work_parts, MayRepeat, part_at, dealt, room, Moves, MovesBy}
use Rattle.pm_star.specs.Levels.{IsShared}
use Rattle.pm_star.proofs.Moving.{star_append}

goal_onto : (goal : Goal) (end : Formula) → star_onto (parts goal) end ≡ left_onto goal end
goal_onto goal end = star_append (shared goal) (hyps goal.spats) end ∙ star_append (facts goal.pures) (hyps_as kind.Int goal.ints) (star_onto (hyps goal.spats) end)

pub goal_star : (goal : Goal) → star (parts goal) ≡ left_of goal
goal_star goal = goal_onto goal (Assert pure.True)

pub work_star : (work : Work) → star (work_parts work) ≡ left_of_work work
work_star work = star_append (parts work.goal) (held_parts work.held) (Assert pure.True) ∙ goal_onto work.goal (star_onto (held_parts work.held) (Assert pure.True))

-- a move of the parts that were collected is one of the goal
pub of_goal : (goal : Goal) (k : ℕ) (fs : List Formula) (r : List Formula → Formula) (p : Tree) → fs ≡ parts goal → k ≡ length goal.vars → Moves k (length fs) (star fs) (r fs) p → Moves (length goal.vars) (length (parts goal)) (left_of goal) (r (parts goal)) p
of_goal goal k fs r p is vars m =
    subst (λ (y : Formula). Moves (length goal.vars) (length (parts goal)) y (r (parts goal)) p) (goal_star goal)
    (subst (λ (gs : List Formula). Moves (length goal.vars) (length gs) (star gs) (r gs) p) is (subst (λ (j : ℕ). Moves j (length fs) (star fs) (r fs) p) vars m))

pub of_work : (work : Work) (k : ℕ) (fs : List Formula) (r : List Formula → Formula) (p : Tree) → fs ≡ work_parts work → k ≡ length work.goal.vars → Moves k (length fs) (star fs) (r fs) p → Moves (length work.goal.vars) (length (work_parts work)) (left_of_work work) (r (work_parts work)) p
of_work work k fs r p is vars m =
    subst (λ (y : Formula). Moves (length work.goal.vars) (length (work_parts work)) y (r (work_parts work)) p) (work_star work)
    (subst (λ (gs : List Formula). Moves (length work.goal.vars) (length gs) (star gs) (r gs) p) is (subst (λ (j : ℕ). Moves j (length fs) (star fs) (r fs) p) vars m))

pub by_goal : (goal : Goal) (k : ℕ) (fs : List Formula) (r : List Formula → Formula) (by p : Tree) → fs ≡ parts goal → k ≡ length goal.vars → MovesBy by k (length fs) (star fs) (r fs) p → MovesBy by (length goal.vars) (length (parts goal)) (left_of goal) (r (parts goal)) p
by_goal goal k fs r by p is vars m =
    subst (λ (y : Formula). MovesBy by (length goal.vars) (length (parts goal)) y (r (parts goal)) p) (goal_star goal)
    (subst (λ (gs : List Formula). MovesBy by (length goal.vars) (length gs) (star gs) (r gs) p) is (subst (λ (j : ℕ). MovesBy by j (length fs) (star fs) (r fs) p) vars m))

pub by_work : (work : Work) (k : ℕ) (fs : List Formula) (r : List Formula → Formula) (by p : Tree) → fs ≡ work_parts work → k ≡ length work.goal.vars → MovesBy by k (length fs) (star fs) (r fs) p → MovesBy by (length work.goal.vars) (length (work_parts work)) (left_of_work work) (r (work_parts work)) p
by_work work k fs r by p is vars m =
    subst (λ (y : Formula). MovesBy by (length work.goal.vars) (length (work_parts work)) y (r (work_parts work)) p) (work_star work)
    (subst (λ (gs : List Formula). MovesBy by (length work.goal.vars) (length gs) (star gs) (r gs) p) is (subst (λ (j : ℕ). MovesBy by j (length fs) (star fs) (r fs) p) vars m))

-- the same of a star with a formula in front
pub beside_goal : (goal : Goal) (k : ℕ) (fs : List Formula) (a : Formula) (r : List Formula → Formula) (p : Tree) → fs ≡ parts goal → k ≡ length goal.vars → Moves k (length fs) (view.Sep a (star fs)) (r fs) p → Moves (length goal.vars) (length (parts goal)) (view.Sep a (left_of goal)) (r (parts goal)) p
beside_goal goal k fs a r p is vars m =
    subst (λ (y : Formula). Moves (length goal.vars) (length (parts goal)) (view.Sep a y) (r (parts goal)) p) (goal_star goal)
    (subst (λ (gs : List Formula). Moves (length goal.vars) (length gs) (view.Sep a (star gs)) (r gs) p) is (subst (λ (j : ℕ). Moves j (length fs) (view.Sep a (star fs)) (r fs) p) vars m))

pub beside_work : (work : Work) (k : ℕ) (fs : List Formula) (a : Formula) (r : List Formula → Formula) (p : Tree) → fs ≡ work_parts work → k ≡ length work.goal.vars → Moves k (length fs) (view.Sep a (star fs)) (r fs) p → Moves (length work.goal.vars) (length (work_parts work)) (view.Sep a (left_of_work work)) (r (work_parts work)) p
beside_work work k fs a r p is vars m =
    subst (λ (y : Formula). Moves (length work.goal.vars) (length (work_parts work)) (view.Sep a y) (r (work_parts work)) p) (work_star work)
    (subst (λ (gs : List Formula). Moves (length work.goal.vars) (length gs) (view.Sep a (star gs)) (r gs) p) is (subst (λ (j : ℕ). Moves j (length fs) (view.Sep a (star fs)) (r fs) p) vars m))

more_room : (k n m : ℕ) (l r : Formula) (p : Tree) → n ≤ m → Moves k n l r p → Moves k m l r p
more_room k n m l r p le h = weaker Every (entail k l r) [] (100 * (n + 1)) (room l r) k (100 * (m + 1)) (room l r) k p (omega (arith, le)) (omega arith) (omega arith) h

pub boxed_goal : (goal : Goal) (k : ℕ) (fs lost : List Formula) (p : Tree) → fs ≡ shared goal → lost ≡ hyps goal.spats → k ≡ length goal.vars → Moves k (length fs) (star (fs ++ lost)) (view.Pers (star fs)) p → Moves (length goal.vars) (length (parts goal)) (left_of goal) (view.Pers (star (shared goal))) p
boxed_goal goal k fs lost p is rest vars m =
    let short : length (shared goal) ≤ length (parts goal) = omega (arith, length-append (shared goal) (hyps goal.spats)) in
    more_room (length goal.vars) (length (shared goal)) (length (parts goal)) (left_of goal) (view.Pers (star (shared goal))) p short
    (subst (λ (y : Formula). Moves (length goal.vars) (length (shared goal)) y (view.Pers (star (shared goal))) p) (goal_star goal)
    (subst (λ (gs : List Formula). Moves (length goal.vars) (length (shared goal)) (star (shared goal ++ gs)) (view.Pers (star (shared goal))) p) rest
    (subst (λ (gs : List Formula). Moves (length goal.vars) (length gs) (star (gs ++ lost)) (view.Pers (star gs)) p) is (subst (λ (j : ℕ). Moves j (length fs) (star (fs ++ lost)) (view.Pers (star fs)) p) vars m))))

pub dealt_goal : (goal : Goal) (k : ℕ) (fs : List Formula) (n : ℕ) (listed listed1 : List ℕ) (p : Tree) → fs ≡ parts goal → k ≡ length goal.vars → n ≡ length (shared goal) → listed ≡ listed1 → Moves k (length fs) (star fs) (dealt n listed fs) p → Moves (length goal.vars) (length (parts goal)) (left_of goal) (dealt (length (shared goal)) listed1 (parts goal)) p
dealt_goal goal k fs n listed listed1 p is vars first same m =
    of_goal goal k fs (dealt (length (shared goal)) listed1) p is vars
    (subst (λ (j : ℕ). Moves k (length fs) (star fs) (dealt j listed1 fs) p) first (subst (λ (js : List ℕ). Moves k (length fs) (star fs) (dealt n js fs) p) same m))

pub dealt_work : (work : Work) (k : ℕ) (fs : List Formula) (n : ℕ) (listed listed1 : List ℕ) (p : Tree) → fs ≡ work_parts work → k ≡ length work.goal.vars → n ≡ length (shared work.goal) → listed ≡ listed1 → Moves k (length fs) (star fs) (dealt n listed fs) p → Moves (length work.goal.vars) (length (work_parts work)) (left_of_work work) (dealt (length (shared work.goal)) listed1 (work_parts work)) p
dealt_work work k fs n listed listed1 p is vars first same m =
    of_work work k fs (dealt (length (shared work.goal)) listed1) p is vars
    (subst (λ (j : ℕ). Moves k (length fs) (star fs) (dealt j listed1 fs) p) first (subst (λ (js : List ℕ). Moves k (length fs) (star fs) (dealt n js fs) p) same m))

-- ---- what may be used any number of times

abbrev AreShared : List Formula → Type 0
AreShared fs = (i : ℕ) → i < length fs → IsShared (part_at fs i)

facts_shared : (fs : List Fact) → AreShared (facts fs)
facts_shared [] i lt = absurd (omega (arith, lt))
facts_shared (f ∷ fs) zero lt = inl (f.pure, refl)
facts_shared (f ∷ fs) (suc i) lt = facts_shared fs i (omega (arith, lt))

ints_shared : (hs : List Hyp) → AreShared (hyps_as kind.Int hs)
ints_shared [] i lt = absurd (omega (arith, lt))
ints_shared (h ∷ hs) zero lt = inr (h.formula, refl)
ints_shared (h ∷ hs) (suc i) lt = ints_shared hs i (omega (arith, lt))

both_are : (fs gs : List Formula) → AreShared fs → AreShared gs → AreShared (fs ++ gs)
both_are [] gs hf hg i lt = hg i lt
both_are (f ∷ fs) gs hf hg zero lt = hf zero (omega arith)
both_are (f ∷ fs) gs hf hg (suc i) lt = both_are fs gs (λ j l. hf (suc j) (omega (arith, l))) hg i (omega (arith, lt))

shared_are : (goal : Goal) → AreShared (shared goal)
shared_are goal = both_are (facts goal.pures) (hyps_as kind.Int goal.ints) (facts_shared goal.pures) (ints_shared goal.ints)

pub all_shared : (goal : Goal) (fs : List Formula) → fs ≡ shared goal → (i : ℕ) → i < length fs → IsShared (part_at fs i)
all_shared goal fs is = subst AreShared (sym is) (shared_are goal)

-- also in front of others
first_shared : (goal : Goal) (more : List Formula) (i : ℕ) → i < length (shared goal) → IsShared (part_at (shared goal ++ more) i)
first_shared goal more i lt = subst IsShared (sym (get_or_append_left (shared goal) more (Assert pure.True) i lt)) (shared_are goal i lt)

pub goal_shared : (goal : Goal) (fs : List Formula) (n i : ℕ) → fs ≡ parts goal → n ≡ length (shared goal) → i < n → IsShared (part_at fs i)
goal_shared goal fs n i is first lt = subst (λ (gs : List Formula). IsShared (part_at gs i)) (sym is) (first_shared goal (hyps goal.spats) i (subst (λ (m : ℕ). i < m) first lt))

work_shared : (work : Work) (i : ℕ) → i < length (shared work.goal) → IsShared (part_at (work_parts work) i)
work_shared work i lt =
    let lt1 : i < length (parts work.goal) = omega (arith, lt, length-append (shared work.goal) (hyps work.goal.spats)) in
    subst IsShared (sym (get_or_append_left (parts work.goal) (held_parts work.held) (Assert pure.True) i lt1)) (first_shared work.goal (hyps work.goal.spats) i lt)

pub work_first : (work : Work) (fs : List Formula) (n i : ℕ) → fs ≡ work_parts work → n ≡ length (shared work.goal) → i < n → IsShared (part_at fs i)
work_first work fs n i is first lt = subst (λ (gs : List Formula). IsShared (part_at gs i)) (sym is) (work_shared work i (subst (λ (m : ℕ). i < m) first lt))

same_kind : (k : Kind) → Some k ≡ Some kind.Int → k ≡ kind.Int
same_kind k e = cc

held_shared : (hs : List Held) (i : ℕ) → option_map (λ (h : Held). h.kind) (slice_get hs i) ≡ Some kind.Int → IsShared (part_at (held_parts hs) i)
held_shared [] i e = absurd cc
held_shared (h ∷ hs) zero e = inr (h.formula, ap (λ (k : Kind). of_kind k h.formula) (same_kind h.kind e))
held_shared (h ∷ hs) (suc i) e = held_shared hs i e

-- behind others
behind_shared : (fs : List Formula) (hs : List Held) (i n : ℕ) → n ≡ length fs + i → option_map (λ (h : Held). h.kind) (slice_get hs i) ≡ Some kind.Int → IsShared (part_at (fs ++ held_parts hs) n)
behind_shared [] hs i n at e = let same : i ≡ n = omega (arith, at) in subst (λ (j : ℕ). IsShared (part_at (held_parts hs) j)) same (held_shared hs i e)
behind_shared (f ∷ fs) hs i zero at e = absurd (omega (arith, at))
behind_shared (f ∷ fs) hs i (suc n) at e = behind_shared fs hs i n (omega (arith, at)) e

repeat_shared : (work : Work) (i : ℕ) → MayRepeat work i → IsShared (part_at (work_parts work) i)
repeat_shared work i may = elim may [
  | inl lt ↦ work_shared work i lt
  | inr h ↦ behind_shared (parts work.goal) work.held h.0 i h.1 h.2
]

pub work_repeat : (work : Work) (fs : List Formula) (i : ℕ) → fs ≡ work_parts work → MayRepeat work i → IsShared (part_at fs i)
work_repeat work fs i is may = subst (λ (gs : List Formula). IsShared (part_at gs i)) (sym is) (repeat_shared work i may)

-- such a place is one of the work's
held_place : (hs : List Held) (i : ℕ) → option_map (λ (h : Held). h.kind) (slice_get hs i) ≡ Some kind.Int → i < length (held_parts hs)
held_place [] i e = absurd cc
held_place (h ∷ hs) zero e = omega arith
held_place (h ∷ hs) (suc i) e = omega (arith, held_place hs i e)

pub repeat_within : (work : Work) (fs : List Formula) (i : ℕ) → fs ≡ work_parts work → MayRepeat work i → i < length fs
repeat_within work fs i is may = elim may [
  | inl lt ↦ omega (arith, lt, ap length is, length-append (shared work.goal) (hyps work.goal.spats), length-append (parts work.goal) (held_parts work.held))
  | inr h ↦ omega (arith, h.1, held_place work.held h.0 h.2, ap length is, length-append (parts work.goal) (held_parts work.held))
]
