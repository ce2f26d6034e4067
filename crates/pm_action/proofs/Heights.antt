-- How deep the star of a work is, and how many parts it has.
use Rattle.std.proofs.Common.{◌≡◌, ℕ, suc, ◌+◌, ◌≤◌, List, [], ◌∷◌, ◌++◌, length, length-append, map, arith}
use Rattle.std.specs.List.{AllByRecursion}
use Rattle.std.proofs.lemmas.List.{length-map}
use Rattle.pm_logic.specs.declared.formula.Formula.{Formula}
use Rattle.pm_logic.specs.declared.formula.Formula.TheVariants.{Pure as Assert}
use Rattle.pm_logic.specs.Size.{depth_of, pure_depth}
use Rattle.pm_logic.proofs.Sizes.{depth_pure}
use Rattle.pm_goal.specs.declared.goal.Hyp.{Hyp}
use Rattle.pm_goal.specs.declared.goal.Fact.{Fact}
use Rattle.pm_goal.specs.declared.work.Held.{Held}
use Rattle.pm_goal.specs.declared.work.Work.{Work}
use Rattle.pm_goal.specs.Left.{facts, hyps, hyps_as, of_kind, held_parts, left_of_work}
use Rattle.pm_goal.specs.declared.work.Kind.TheVariants as kind
use Rattle.pm_proof.specs.Trees.{side_depth}
use Rattle.pm_star.specs.Stars.{shared, parts, work_parts}
use Rattle.pm_star.specs.Scopes.{IsWorkWithin, work_count}
use Rattle.pm_star.proofs.Scoping.{work_within}
use Rattle.pm_classes.proofs.Sizes.{has_levels, has_nodes}
use Rattle.pm_table.specs.Limits.{formulas, work_formulas, all_nodes, greatest_depth, hypotheses}
use Rattle.pm_action.specs.Meanings.{meaning, height}
use Rattle.pm_action.proofs.Sums.{depth_append}

-- no fact is deeper, and nothing behind the facts
facts_within : (d : ℕ) (fs : List Fact) (rest : List Formula) → greatest_depth (facts fs ++ rest) ≤ d → AllByRecursion (λ (f : Fact). pure_depth f.pure ≤ d) fs × (greatest_depth rest ≤ d)
facts_within d [] rest le = (tt, le)
facts_within d (f ∷ fs) rest le = let behind = facts_within d fs rest (omega (arith, le)) in ((omega (arith, le, depth_pure f.pure), behind.0), behind.1)

hyps_within : (d : ℕ) (hs : List Hyp) (rest : List Formula) → greatest_depth (hyps hs ++ rest) ≤ d → AllByRecursion (λ (h : Hyp). depth_of h.formula ≤ d) hs × (greatest_depth rest ≤ d)
hyps_within d [] rest le = (tt, le)
hyps_within d (h ∷ hs) rest le = let behind = hyps_within d hs rest (omega (arith, le)) in ((omega (arith, le), behind.0), behind.1)

held_within : (d : ℕ) (hs : List Held) → greatest_depth (map (λ (h : Held). h.formula) hs) ≤ d → AllByRecursion (λ (h : Held). depth_of h.formula ≤ d) hs
held_within d [] le = tt
held_within d (h ∷ hs) le = (omega (arith, le), held_within d hs (omega (arith, le)))

-- the deepest formula of a work
module _ (w : Work) where
  abbrev pub deepest : ℕ
  deepest = greatest_depth (work_formulas w)

  goal_deepest : greatest_depth (formulas w.goal) ≤ deepest
  goal_deepest = omega (arith, depth_append (formulas w.goal) (map (λ (h : Held). h.formula) w.held))

  in_hand : greatest_depth (map (λ (h : Held). h.formula) w.held) ≤ deepest
  in_hand = omega (arith, depth_append (formulas w.goal) (map (λ (h : Held). h.formula) w.held))

  inside : IsWorkWithin deepest w × (depth_of w.goal.concl ≤ deepest)
  inside =
      let a = facts_within deepest w.goal.pures (hyps w.goal.ints ++ (hyps w.goal.spats ++ (w.goal.concl ∷ []))) goal_deepest in
      let b = hyps_within deepest w.goal.ints (hyps w.goal.spats ++ (w.goal.concl ∷ [])) a.1 in
      let c = hyps_within deepest w.goal.spats (w.goal.concl ∷ []) b.1 in
      (record { goal = record { pures = a.0; ints = b.0; spats = c.0 }; held = held_within deepest w.held in_hand }, omega (arith, c.1))

  pub concl_depth : depth_of w.goal.concl ≤ deepest
  concl_depth = inside.1

  pub concl_height : depth_of w.goal.concl ≤ height w
  concl_height = omega (arith, inside.1)

  counted : work_count w ≡ hypotheses w
  counted = omega arith

  pub star_height : depth_of (left_of_work w) ≤ height w + 1
  star_height = omega (arith, work_within deepest w (omega (arith, has_levels w.goal.concl, inside.1)) inside.0, counted)

  pub sides_height : side_depth (meaning w) ≤ height w + 1
  sides_height = omega (arith, star_height, concl_height)

-- ---- how many parts

-- each formula has a node
count_nodes : (fs : List Formula) → length fs ≤ all_nodes fs
count_nodes [] = omega arith
count_nodes (f ∷ fs) = omega (arith, count_nodes fs, has_nodes f)

parts_count : (w : Work) → length (work_parts w) ≡ hypotheses w
parts_count w =
    let g = w.goal in
    omega (
      arith,
      length-append (parts g) (held_parts w.held),
      length-append (shared g) (hyps g.spats),
      length-append (facts g.pures) (hyps_as kind.Int g.ints),
      length-map g.pures (λ (f : Fact). Assert f.pure),
      length-map g.ints (λ (h : Hyp). of_kind kind.Int h.formula),
      length-map g.spats (λ (h : Hyp). of_kind kind.Spat h.formula),
      length-map w.held (λ (h : Held). of_kind h.kind h.formula),
    )

formulas_count : (w : Work) → length (work_formulas w) ≡ suc (hypotheses w)
formulas_count w =
    let g = w.goal in
    omega (
      arith,
      length-append (formulas g) (map (λ (h : Held). h.formula) w.held),
      length-append (facts g.pures) (hyps g.ints ++ (hyps g.spats ++ (g.concl ∷ []))),
      length-append (hyps g.ints) (hyps g.spats ++ (g.concl ∷ [])),
      length-append (hyps g.spats) (g.concl ∷ []),
      length-map g.pures (λ (f : Fact). Assert f.pure),
      length-map g.ints (λ (h : Hyp). of_kind kind.Spat h.formula),
      length-map g.spats (λ (h : Hyp). of_kind kind.Spat h.formula),
      length-map w.held (λ (h : Held). h.formula),
    )

-- the parts are fewer than the nodes of the work
pub parts_nodes : (w : Work) → suc (length (work_parts w)) ≤ all_nodes (work_formulas w)
parts_nodes w = omega (arith, parts_count w, formulas_count w, count_nodes (work_formulas w))

pub parts_are : (w : Work) → length (work_parts w) ≡ hypotheses w
parts_are w = parts_count w
