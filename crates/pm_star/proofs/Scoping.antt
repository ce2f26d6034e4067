-- Where stars are scoped, and how deep they are.
use Rattle.std.proofs.Common.{◌≡◌, ℕ, suc, ◌+◌, ◌≤◌, ◌↔◌, inl, inr, max, List, [], ◌∷◌, length, map, refl, ap, ◌∙◌, arith, zero, ◌<◌, insert}
use Rattle.std.proofs.lemmas.List.{length-map}
use Rattle.std.specs.List.{AllByRecursion}
use Rattle.pm_logic.specs.declared.formula.Pure.{Pure}
use Rattle.pm_logic.specs.declared.formula.Pure.TheVariants as pure
use Rattle.pm_logic.specs.declared.formula.Formula.{Formula}
use Rattle.pm_logic.specs.declared.formula.Formula.TheVariants.{Pure as Assert}
use Rattle.pm_logic.specs.declared.formula.Formula.TheViews as view
use Rattle.pm_logic.specs.declared.formula.Preds.{Preds}
use Rattle.pm_logic.specs.Scope.{PureScoped, Scoped}
use Rattle.pm_logic.specs.Size.{pure_depth, depth_of}
use Rattle.pm_logic.proofs.Scopes.{true_scoped, scoped_in_sep, sep_scoped_in, scoped_in_modal, modal_scoped_in, pure_scoped_in_to, pure_scoped_in_from, fit_sep, sep_fit, fit_modal, modal_fit, pure_fit}
use Rattle.pm_logic.proofs.Sizes.{depth_pair, depth_modal, depth_pure, depth_true}
use Rattle.pm_goal.specs.declared.goal.Hyp.{Hyp}
use Rattle.pm_goal.specs.declared.goal.Fact.{Fact}
use Rattle.pm_goal.specs.declared.goal.Goal.{Goal}
use Rattle.pm_goal.specs.declared.work.Held.{Held}
use Rattle.pm_goal.specs.declared.work.Work.{Work}
use Rattle.pm_goal.specs.declared.work.Kind.{Kind}
use Rattle.pm_goal.specs.declared.work.Kind.TheVariants as kind
use Rattle.pm_goal.specs.Left.{star_onto, of_kind, facts, hyps_as, hyps, held_parts, left_onto, left_of, left_of_work}
use Rattle.pm_proof.specs.Trees.{entail}
use Rattle.pm_proof.specs.Valid.{EntailScoped}
use Rattle.pm_star.specs.Stars.{star, part_at, without, in_front, duplicated}
use Rattle.pm_star.specs.Scopes.{IsGoalScoped, IsWorkScoped, star_depth, IsGoalWithin, IsWorkWithin, goal_count, work_count}

-- ---- connectives

pub sep_scoped : (preds : Preds) (k : ℕ) (f g : Formula) → Scoped preds k f → Scoped preds k g → Scoped preds k (view.Sep f g)
sep_scoped preds k f g s r = record { indices = sep_scoped_in k f g s.indices r.indices; calls = sep_fit preds.list f g s.calls r.calls }

pub scoped_sep : (preds : Preds) (k : ℕ) (f g : Formula) → Scoped preds k (view.Sep f g) → Scoped preds k f × Scoped preds k g
scoped_sep preds k f g s =
    let p = scoped_in_sep k f g s.indices in
    let q = fit_sep preds.list f g s.calls in
    (record { indices = p.0; calls = q.0 }, record { indices = p.1; calls = q.1 })

pub box_scoped : (preds : Preds) (k : ℕ) (f : Formula) → Scoped preds k f → Scoped preds k (view.Pers f)
box_scoped preds k f s = record { indices = modal_scoped_in k (view.Pers f) f (inr (inl refl)) s.indices; calls = modal_fit preds.list (view.Pers f) f (inr (inl refl)) s.calls }

pub scoped_box : (preds : Preds) (k : ℕ) (f : Formula) → Scoped preds k (view.Pers f) → Scoped preds k f
scoped_box preds k f s = record { indices = scoped_in_modal k (view.Pers f) f (inr (inl refl)) s.indices; calls = fit_modal preds.list (view.Pers f) f (inr (inl refl)) s.calls }

pub fact_scoped : (preds : Preds) (k : ℕ) (p : Pure) → PureScoped k p → Scoped preds k (Assert p)
fact_scoped preds k p s = record { indices = pure_scoped_in_from k p s; calls = pure_fit preds.list p }

pub scoped_fact : (preds : Preds) (k : ℕ) (p : Pure) → Scoped preds k (Assert p) → PureScoped k p
scoped_fact preds k p s = pure_scoped_in_to k p s.indices

pub truth_scoped : (preds : Preds) (k : ℕ) → Scoped preds k (Assert pure.True)
truth_scoped preds k = fact_scoped preds k pure.True (true_scoped k)

-- ---- stars

pub onto_scoped : (preds : Preds) (k : ℕ) (fs : List Formula) (end : Formula) → AllByRecursion (Scoped preds k) fs → Scoped preds k end → Scoped preds k (star_onto fs end)
unfolding star_onto
onto_scoped preds k [] end a s = s
onto_scoped preds k (f ∷ fs) end a s = sep_scoped preds k f (star_onto fs end) a.0 (onto_scoped preds k fs end a.1 s)

pub scoped_onto : (preds : Preds) (k : ℕ) (fs : List Formula) (end : Formula) → Scoped preds k (star_onto fs end) → AllByRecursion (Scoped preds k) fs × Scoped preds k end
unfolding star_onto
scoped_onto preds k [] end s = (tt, s)
scoped_onto preds k (f ∷ fs) end s =
    let p = scoped_sep preds k f (star_onto fs end) s in
    let q = scoped_onto preds k fs end p.1 in
    ((p.0, q.0), q.1)

-- a star and its parts
pub star_scoped : (preds : Preds) (k : ℕ) (fs : List Formula) → AllByRecursion (Scoped preds k) fs → Scoped preds k (star fs)
star_scoped preds k fs a = onto_scoped preds k fs (Assert pure.True) a (truth_scoped preds k)

pub scoped_star : (preds : Preds) (k : ℕ) (fs : List Formula) → Scoped preds k (star fs) → AllByRecursion (Scoped preds k) fs
scoped_star preds k fs s = (scoped_onto preds k fs (Assert pure.True) s).0

pub part_scoped : (preds : Preds) (k : ℕ) (fs : List Formula) (i : ℕ) → AllByRecursion (Scoped preds k) fs → Scoped preds k (part_at fs i)
part_scoped preds k [] zero a = truth_scoped preds k
part_scoped preds k [] (suc i) a = truth_scoped preds k
part_scoped preds k (f ∷ fs) zero a = a.0
part_scoped preds k (f ∷ fs) (suc i) a = part_scoped preds k fs i a.1

pub all_without : (P : Formula → Type 0) (fs : List Formula) (i : ℕ) → AllByRecursion P fs → AllByRecursion P (without fs i)
all_without P [] zero a = tt
all_without P [] (suc i) a = tt
all_without P (f ∷ fs) zero a = a.1
all_without P (f ∷ fs) (suc i) a = (a.0, all_without P fs i a.1)

pub all_insert : (P : Formula → Type 0) (fs : List Formula) (i : ℕ) (f : Formula) → AllByRecursion P fs → P f → AllByRecursion P (insert fs i f)
all_insert P fs zero f a p = (p, a)
all_insert P [] (suc i) f a p = (p, tt)
all_insert P (g ∷ fs) (suc i) f a p = (a.0, all_insert P fs i f a.1 p)

pub front_scoped : (preds : Preds) (k : ℕ) (fs : List Formula) (i : ℕ) → Scoped preds k (star fs) → Scoped preds k (star (in_front fs i))
front_scoped preds k fs i s =
    let a = scoped_star preds k fs s in
    star_scoped preds k (in_front fs i) (part_scoped preds k fs i a, all_without (Scoped preds k) fs i a)

pub duplicated_scoped : (preds : Preds) (k : ℕ) (fs : List Formula) (i : ℕ) → Scoped preds k (star fs) → Scoped preds k (star (duplicated fs i))
duplicated_scoped preds k fs i s =
    let a = scoped_star preds k fs s in
    star_scoped preds k (duplicated fs i) (part_scoped preds k fs i a, a)

-- the second entailment's sides are scoped where the first one's are
abbrev pub Scopes : ℕ → Formula → Formula → Formula → Formula → Type 0
Scopes k l1 r1 l r = (preds : Preds) → EntailScoped preds (entail k l1 r1) → EntailScoped preds (entail k l r)

-- ---- the star of a goal

all_mapped : {A : Type 0} (part : A → Formula) (P : A → Type 0) (Q : Formula → Type 0) → ((x : A) → P x → Q (part x)) → (xs : List A) → AllByRecursion P xs → AllByRecursion Q (map part xs)
all_mapped part P Q by [] a = tt
all_mapped part P Q by (x ∷ xs) a = (by x a.0, all_mapped part P Q by xs a.1)

all_back : {A : Type 0} (part : A → Formula) (P : A → Type 0) (Q : Formula → Type 0) → ((x : A) → Q (part x) → P x) → (xs : List A) → AllByRecursion Q (map part xs) → AllByRecursion P xs
all_back part P Q by [] a = tt
all_back part P Q by (x ∷ xs) a = (by x a.0, all_back part P Q by xs a.1)

kind_scoped : (preds : Preds) (k : ℕ) (z : Kind) (f : Formula) → Scoped preds k f → Scoped preds k (of_kind z f)
kind_scoped preds k kind.Int f s = box_scoped preds k f s
kind_scoped preds k kind.Spat f s = s

scoped_kind : (preds : Preds) (k : ℕ) (z : Kind) (f : Formula) → Scoped preds k (of_kind z f) → Scoped preds k f
scoped_kind preds k kind.Int f s = scoped_box preds k f s
scoped_kind preds k kind.Spat f s = s

-- what the star of a goal ends in is scoped with it
pub left_onto_scoped : (preds : Preds) (k : ℕ) (goal : Goal) (end : Formula) → IsGoalScoped preds k goal → Scoped preds k end → Scoped preds k (left_onto goal end)
left_onto_scoped preds k goal end s e =
    onto_scoped preds k (facts goal.pures) (star_onto (hyps_as kind.Int goal.ints) (star_onto (hyps goal.spats) end))
    (all_mapped (λ (f : Fact). Assert f.pure) (λ f. PureScoped k f.pure) (Scoped preds k) (λ f p. fact_scoped preds k f.pure p) goal.pures s.pures)
    (onto_scoped preds k (hyps_as kind.Int goal.ints) (star_onto (hyps goal.spats) end)
    (all_mapped (λ (h : Hyp). of_kind kind.Int h.formula) (λ h. Scoped preds k h.formula) (Scoped preds k) (λ h p. box_scoped preds k h.formula p) goal.ints s.ints)
    (onto_scoped preds k (hyps goal.spats) end
    (all_mapped (λ (h : Hyp). of_kind kind.Spat h.formula) (λ h. Scoped preds k h.formula) (Scoped preds k) (λ h p. p) goal.spats s.spats) e))

pub scoped_left_onto : (preds : Preds) (k : ℕ) (goal : Goal) (end : Formula) → Scoped preds k (left_onto goal end) → IsGoalScoped preds k goal × Scoped preds k end
scoped_left_onto preds k goal end s =
    let a = scoped_onto preds k (facts goal.pures) (star_onto (hyps_as kind.Int goal.ints) (star_onto (hyps goal.spats) end)) s in
    let b = scoped_onto preds k (hyps_as kind.Int goal.ints) (star_onto (hyps goal.spats) end) a.1 in
    let c = scoped_onto preds k (hyps goal.spats) end b.1 in (
      record {
        pures = all_back (λ (f : Fact). Assert f.pure) (λ f. PureScoped k f.pure) (Scoped preds k) (λ f p. scoped_fact preds k f.pure p) goal.pures a.0;
        ints = all_back (λ (h : Hyp). of_kind kind.Int h.formula) (λ h. Scoped preds k h.formula) (Scoped preds k) (λ h p. scoped_box preds k h.formula p) goal.ints b.0;
        spats = all_back (λ (h : Hyp). of_kind kind.Spat h.formula) (λ h. Scoped preds k h.formula) (Scoped preds k) (λ h p. p) goal.spats c.0;
      },
      c.1,
    )

-- the star of a goal is scoped exactly where each fact and each hypothesis is
pub goal_scoped : (preds : Preds) (k : ℕ) (goal : Goal) → Scoped preds k (left_of goal) ↔ IsGoalScoped preds k goal
goal_scoped preds k goal = (λ s. (scoped_left_onto preds k goal (Assert pure.True) s).0, λ s. left_onto_scoped preds k goal (Assert pure.True) s (truth_scoped preds k))

scoped_work : (preds : Preds) (k : ℕ) (work : Work) → Scoped preds k (left_of_work work) → IsWorkScoped preds k work
scoped_work preds k work s =
    let a = scoped_left_onto preds k work.goal (star_onto (held_parts work.held) (Assert pure.True)) s in
    let b = scoped_onto preds k (held_parts work.held) (Assert pure.True) a.1 in
    record {
      goal = a.0;
      held = all_back (λ (h : Held). of_kind h.kind h.formula) (λ h. Scoped preds k h.formula) (Scoped preds k) (λ h p. scoped_kind preds k h.kind h.formula p) work.held b.0;
    }

work_is_scoped : (preds : Preds) (k : ℕ) (work : Work) → IsWorkScoped preds k work → Scoped preds k (left_of_work work)
work_is_scoped preds k work s =
    left_onto_scoped preds k work.goal (star_onto (held_parts work.held) (Assert pure.True)) s.goal
    (onto_scoped preds k (held_parts work.held) (Assert pure.True)
    (all_mapped (λ (h : Held). of_kind h.kind h.formula) (λ h. Scoped preds k h.formula) (Scoped preds k) (λ h p. kind_scoped preds k h.kind h.formula p) work.held s.held)
    (truth_scoped preds k))

-- and that of a work exactly where those in hand are, too
pub work_scoped : (preds : Preds) (k : ℕ) (work : Work) → Scoped preds k (left_of_work work) ↔ IsWorkScoped preds k work
work_scoped preds k work = (scoped_work preds k work, work_is_scoped preds k work)

-- ---- depths

pub depth_sep : (f g : Formula) → depth_of (view.Sep f g) ≡ suc (max (depth_of f) (depth_of g))
depth_sep f g = depth_pair (view.Sep f g) f g (inl refl)

pub depth_box : (f : Formula) → depth_of (view.Pers f) ≡ suc (depth_of f)
depth_box f = depth_modal (view.Pers f) f (inr (inl refl))

pub depth_truth : depth_of (Assert pure.True) ≡ 2
depth_truth = depth_pure pure.True ∙ ap suc depth_true

pub star_is_deep : (fs : List Formula) → depth_of (star fs) ≡ star_depth fs
unfolding star_onto
star_is_deep [] = depth_truth
star_is_deep (f ∷ fs) = depth_sep f (star fs) ∙ ap (λ n. suc (max (depth_of f) n)) (star_is_deep fs)

-- a star of parts of which none is deeper than d
pub star_within : (d : ℕ) (fs : List Formula) → 2 ≤ d → AllByRecursion (λ f. depth_of f ≤ d) fs → depth_of (star fs) ≤ d + length fs
unfolding star_onto
star_within d [] two a = omega (arith, two, depth_truth)
star_within d (f ∷ fs) two a = omega (arith, a.0, star_within d fs two a.1, depth_sep f (star fs))

-- the same of what the star ends in
onto_within : (d n : ℕ) (fs : List Formula) (end : Formula) → AllByRecursion (λ f. depth_of f ≤ d) fs → depth_of end ≤ d + n → depth_of (star_onto fs end) ≤ d + (length fs + n)
unfolding star_onto
onto_within d n [] end a e = omega (arith, e)
onto_within d n (f ∷ fs) end a e = omega (arith, a.0, onto_within d n fs end a.1 e, depth_sep f (star_onto fs end))

kind_within : (d : ℕ) (z : Kind) (f : Formula) → depth_of f ≤ d → depth_of (of_kind z f) ≤ suc d
kind_within d kind.Int f le = omega (arith, le, depth_box f)
kind_within d kind.Spat f le = omega (arith, le)

left_onto_within : (d n : ℕ) (goal : Goal) (end : Formula) → IsGoalWithin d goal → depth_of end ≤ suc d + n → depth_of (left_onto goal end) ≤ suc d + (goal_count goal + n)
left_onto_within d n goal end s e =
    let c = onto_within (suc d) n (hyps goal.spats) end
    (all_mapped (λ (h : Hyp). of_kind kind.Spat h.formula) (λ h. depth_of h.formula ≤ d) (λ f. depth_of f ≤ suc d) (λ h p. omega (arith, p)) goal.spats s.spats) e in
    let b = onto_within (suc d) (length (hyps goal.spats) + n) (hyps_as kind.Int goal.ints) (star_onto (hyps goal.spats) end)
    (all_mapped (λ (h : Hyp). of_kind kind.Int h.formula) (λ h. depth_of h.formula ≤ d) (λ f. depth_of f ≤ suc d) (λ h p. kind_within d kind.Int h.formula p) goal.ints s.ints) c in
    let a = onto_within (suc d) (length (hyps_as kind.Int goal.ints) + (length (hyps goal.spats) + n)) (facts goal.pures) (star_onto (hyps_as kind.Int goal.ints) (star_onto (hyps goal.spats) end))
    (all_mapped (λ (f : Fact). Assert f.pure) (λ f. pure_depth f.pure ≤ d) (λ f. depth_of f ≤ suc d) (λ f p. omega (arith, p, depth_pure f.pure)) goal.pures s.pures) b in
    omega (arith, a, length-map goal.pures (λ (f : Fact). Assert f.pure), length-map goal.ints (λ (h : Hyp). of_kind kind.Int h.formula), length-map goal.spats (λ (h : Hyp). of_kind kind.Spat h.formula))

-- no fact and no hypothesis is deeper than d
pub goal_within : (d : ℕ) (goal : Goal) → 1 ≤ d → IsGoalWithin d goal → depth_of (left_of goal) ≤ d + goal_count goal + 1
goal_within d goal one s =
    let e : depth_of (Assert pure.True) ≤ suc d + 0 = omega (arith, one, depth_truth) in
    omega (arith, left_onto_within d 0 goal (Assert pure.True) s e)

pub work_within : (d : ℕ) (work : Work) → 1 ≤ d → IsWorkWithin d work → depth_of (left_of_work work) ≤ d + work_count work + 1
work_within d work one s =
    let t : depth_of (Assert pure.True) ≤ suc d + 0 = omega (arith, one, depth_truth) in
    let e = onto_within (suc d) 0 (held_parts work.held) (Assert pure.True)
    (all_mapped (λ (h : Held). of_kind h.kind h.formula) (λ h. depth_of h.formula ≤ d) (λ f. depth_of f ≤ suc d) (λ h p. kind_within d h.kind h.formula p) work.held s.held) t in
    omega (arith, left_onto_within d (length (held_parts work.held) + 0) work.goal (star_onto (held_parts work.held) (Assert pure.True)) s.goal e, length-map work.held (λ (h : Held). of_kind h.kind h.formula))

-- a part is less deep than the star
pub part_deep : (fs : List Formula) (i : ℕ) → i < length fs → suc (depth_of (part_at fs i)) ≤ depth_of (star fs)
unfolding star_onto
part_deep [] i lt = absurd (omega (arith, lt))
part_deep (f ∷ fs) zero lt = omega (arith, depth_sep f (star fs))
part_deep (f ∷ fs) (suc i) lt = omega (arith, part_deep fs i (omega (arith, lt)), depth_sep f (star fs))
