-- What holds of all formulas of a work holds of a spatial hypothesis, and of the parts of the star.
use Rattle.std.proofs.Common.{◌≡◌, ℕ, zero, suc, ◌+◌, ◌<◌, ◌≤◌, max, Bool, true, false, cond, List, [], ◌∷◌, ◌++◌, length, map, subst, sym, arith, Option, Some, None, bytes_eq}
use Rattle.std.specs.List.{AllByRecursion}
use Rattle.pm_logic.specs.declared.formula.Formula.{Formula}
use Rattle.pm_logic.specs.declared.formula.Formula.TheVariants.{Pure as Assert}
use Rattle.pm_logic.specs.declared.formula.Formula.TheViews as view
use Rattle.pm_logic.specs.declared.formula.Pure.TheVariants as pure
use Rattle.pm_logic.specs.Size.{depth_of, nodes_of}
use Rattle.pm_goal.specs.declared.goal.Hyp.{Hyp}
use Rattle.pm_goal.specs.declared.goal.Goal.{Goal}
use Rattle.pm_goal.specs.declared.work.Kind.{Kind}
use Rattle.pm_goal.specs.declared.work.Kind.TheVariants as kind
use Rattle.pm_goal.specs.declared.work.Held.{Held}
use Rattle.pm_goal.specs.declared.work.Work.{Work}
use Rattle.pm_goal.specs.Left.{of_kind, facts, hyps_as, hyps, held_parts}
use Rattle.pm_star.specs.Stars.{shared, parts, work_parts, part_at}
use Rattle.pm_star.proofs.Scoping.{depth_box}
use Rattle.pm_table.specs.Limits.{formulas, work_formulas, all_nodes, greatest_depth}
use Rattle.pm_table.specs.Works.{Named, hyp_named}
use Rattle.pm_intro.proofs.Handed.{all_parts}

joined_all : (P : Formula → Type 0) (xs ys : List Formula) → AllByRecursion P xs → AllByRecursion P ys → AllByRecursion P (xs ++ ys)
joined_all P [] ys a b = b
joined_all P (x ∷ xs) ys a b = (a.0, joined_all P xs ys a.1 b)

named_all : (P : Formula → Type 0) (hs : List Hyp) (name : Named) (f : Formula) → hyp_named name hs ≡ Some f → AllByRecursion P (hyps hs) → P f
named_all P [] name f e a = absurd cc
named_all P (h ∷ hs) name f e a = by (bytes_eq name h.name) e (λ r. named_all P hs name f r a.1)
  where
    by : (b : Bool) → cond b (Some h.formula) (hyp_named name hs) ≡ Some f → (hyp_named name hs ≡ Some f → P f) → P f
    by true e rest = subst P (let same : h.formula ≡ f = cc in same) a.0
    by false e rest = rest e

-- ---- of a work

module _ (P : Formula → Type 0) (w : Work) (all : AllByRecursion P (work_formulas w)) where
  abbrev g : Goal
  g = w.goal

  pub held_all : AllByRecursion P (map (λ (h : Held). h.formula) w.held)
  held_all = (all_parts P (formulas w.goal) (map (λ (h : Held). h.formula) w.held) all).1

  goal_all : AllByRecursion P (formulas w.goal)
  goal_all = (all_parts P (formulas w.goal) (map (λ (h : Held). h.formula) w.held) all).0

  pub facts_all : AllByRecursion P (facts w.goal.pures)
  facts_all = (all_parts P (facts w.goal.pures) (hyps w.goal.ints ++ (hyps w.goal.spats ++ (w.goal.concl ∷ []))) goal_all).0

  behind_facts : AllByRecursion P (hyps w.goal.ints ++ (hyps w.goal.spats ++ (w.goal.concl ∷ [])))
  behind_facts = (all_parts P (facts w.goal.pures) (hyps w.goal.ints ++ (hyps w.goal.spats ++ (w.goal.concl ∷ []))) goal_all).1

  pub ints_all : AllByRecursion P (hyps w.goal.ints)
  ints_all = (all_parts P (hyps w.goal.ints) (hyps w.goal.spats ++ (w.goal.concl ∷ [])) behind_facts).0

  behind_ints : AllByRecursion P (hyps w.goal.spats ++ (w.goal.concl ∷ []))
  behind_ints = (all_parts P (hyps w.goal.ints) (hyps w.goal.spats ++ (w.goal.concl ∷ [])) behind_facts).1

  pub spats_all : AllByRecursion P (hyps w.goal.spats)
  spats_all = (all_parts P (hyps w.goal.spats) (w.goal.concl ∷ []) behind_ints).0

  pub member : (name : Named) (f : Formula) → hyp_named name w.goal.spats ≡ Some f → P f
  member name f e = named_all P w.goal.spats name f e spats_all

-- ---- sizes

deep_each : (d : ℕ) (fs : List Formula) → greatest_depth fs ≤ d → AllByRecursion (λ f. depth_of f ≤ d) fs
deep_each d [] le = tt
deep_each d (f ∷ fs) le = (omega (arith, le), deep_each d fs (omega (arith, le)))

nodes_each : (n : ℕ) (fs : List Formula) → all_nodes fs ≤ n → AllByRecursion (λ f. nodes_of f ≤ n) fs
nodes_each n [] le = tt
nodes_each n (f ∷ fs) le = (omega (arith, le), nodes_each n fs (omega (arith, le)))

pub member_deep : (w : Work) (name : Named) (f : Formula) → hyp_named name w.goal.spats ≡ Some f → depth_of f ≤ greatest_depth (work_formulas w)
member_deep w name f e = member (λ x. depth_of x ≤ greatest_depth (work_formulas w)) w (deep_each (greatest_depth (work_formulas w)) (work_formulas w) (omega arith)) name f e

pub member_nodes : (w : Work) (name : Named) (f : Formula) → hyp_named name w.goal.spats ≡ Some f → nodes_of f ≤ all_nodes (work_formulas w)
member_nodes w name f e = member (λ x. nodes_of x ≤ all_nodes (work_formulas w)) w (nodes_each (all_nodes (work_formulas w)) (work_formulas w) (omega arith)) name f e

-- ---- the parts of the star, one level deeper where they are boxed

deeper : (d : ℕ) (hs : List Hyp) → AllByRecursion (λ f. depth_of f ≤ d) (hyps hs) → AllByRecursion (λ f. depth_of f ≤ suc d) (hyps hs)
deeper d [] a = tt
deeper d (h ∷ hs) a = (omega (arith, a.0), deeper d hs a.1)

deeper_boxed : (d : ℕ) (hs : List Hyp) → AllByRecursion (λ f. depth_of f ≤ d) (hyps hs) → AllByRecursion (λ f. depth_of f ≤ suc d) (hyps_as kind.Int hs)
deeper_boxed d [] a = tt
deeper_boxed d (h ∷ hs) a = (omega (arith, a.0, depth_box h.formula), deeper_boxed d hs a.1)

deeper_all : (d : ℕ) (fs : List Formula) → AllByRecursion (λ f. depth_of f ≤ d) fs → AllByRecursion (λ f. depth_of f ≤ suc d) fs
deeper_all d [] a = tt
deeper_all d (f ∷ fs) a = (omega (arith, a.0), deeper_all d fs a.1)

kind_deep : (d : ℕ) (z : Kind) (f : Formula) → depth_of f ≤ d → depth_of (of_kind z f) ≤ suc d
kind_deep d kind.Int f le = omega (arith, le, depth_box f)
kind_deep d kind.Spat f le = omega (arith, le)

deeper_held : (d : ℕ) (hs : List Held) → AllByRecursion (λ f. depth_of f ≤ d) (map (λ (h : Held). h.formula) hs) → AllByRecursion (λ f. depth_of f ≤ suc d) (held_parts hs)
deeper_held d [] a = tt
deeper_held d (h ∷ hs) a = (kind_deep d h.kind h.formula a.0, deeper_held d hs a.1)

pub parts_deep : (w : Work) → AllByRecursion (λ f. depth_of f ≤ suc (greatest_depth (work_formulas w))) (work_parts w)
parts_deep w =
    let d = greatest_depth (work_formulas w) in
    let P = λ (f : Formula). depth_of f ≤ d in
    let Q = λ (f : Formula). depth_of f ≤ suc d in
    let all : AllByRecursion P (work_formulas w) = deep_each d (work_formulas w) (omega arith) in
    let g = w.goal in
    joined_all Q (parts g) (held_parts w.held)
    (joined_all Q (shared g) (hyps g.spats)
    (joined_all Q (facts g.pures) (hyps_as kind.Int g.ints) (deeper_all d (facts g.pures) (facts_all P w all)) (deeper_boxed d g.ints (ints_all P w all)))
    (deeper d g.spats (spats_all P w all)))
    (deeper_held d w.held (held_all P w all))
