-- A hypothesis or fact is dropped.
use Rattle.std.proofs.Common.{◌≡◌, ℕ, ◌<◌, List, [], length, sym, ◌∙◌, ap, subst, arith, Some, None}
use Rattle.std.specs.Prelude.{Result, Err}
use Rattle.std.proofs.lemmas.List.{append-nil}
use Rattle.pm_logic.specs.declared.formula.Formula.{Formula}
use Rattle.pm_goal.specs.declared.goal.Goal.{Goal}
use Rattle.pm_goal.specs.declared.work.Work.{Work}
use Rattle.pm_goal.specs.declared.refusal.Row.TheVariants.{NoSuchHypothesis}
use Rattle.pm_goal.specs.declared.refusal.StepFault.{StepFault}
use Rattle.pm_goal.specs.Left.{left_of_work}
use Rattle.pm_proof.specs.Trees.{Tree, entail, conclusion}
use Rattle.pm_proof.specs.declared.proof.Parts.{Parts}
use Rattle.pm_star.specs.Stars.{star, parts, work_parts, without, Moves}
use Rattle.pm_table.specs.declared.place.Place.{Place}
use Rattle.pm_table.specs.Limits.{limited, resting, work_formulas, all_nodes}
use Rattle.pm_table.specs.Works.{Named, has_hyp_or_fact, without_named}
use Rattle.pm_table.specs.Stepping.{NamesDiffer}
use Rattle.pm_table.specs.Basic.{on_goal, clear, gives_goal}
use Rattle.pm_table.proofs.Counting.{times_in_goal}
use Rattle.pm_action.specs.Acting.{Answers, Refuses, MovesTo}
use Rattle.pm_action.specs.Naming.{HypsDiffer, FactsDiffer}
use Rattle.pm_action.proofs.Hands.{star_is}
use Rattle.pm_action.proofs.Moves.{moves_answer}
use Rattle.pm_basic.specs.Named.{place_named, IsPart}
use Rattle.pm_basic.proofs.Ending.{on_rest, not_required, required, rest_parts}
use Rattle.pm_basic.proofs.Naming.{part_named, no_part}

-- ---- contexts of a goal

pub facts_apart : (g : Goal) → NamesDiffer g → FactsDiffer g.pures
facts_apart g apart name = omega (arith, times_in_goal name g, apart name)

pub ints_apart : (g : Goal) → NamesDiffer g → HypsDiffer g.ints
ints_apart g apart name = omega (arith, times_in_goal name g, apart name)

pub spats_apart : (g : Goal) → NamesDiffer g → HypsDiffer g.spats
spats_apart g apart name = omega (arith, times_in_goal name g, apart name)

-- ---- places

module _ (w : Work) (name : Named) (n : ℕ) (nothing : w.held ≡ []) (apart : NamesDiffer w.goal) (named : place_named name w.goal ≡ Some n) where
  pub part : IsPart name w.goal n
  part = part_named name w.goal apart n named

  pub place_within : n < length (work_parts w)
  place_within = subst (λ (fs : List Formula). n < length fs) (sym (rest_parts w nothing)) part.within

  -- the star without it
  pub without_is : star (without (work_parts w) n) ≡ left_of_work (resting (without_named name w.goal))
  without_is =
      star_is (resting (without_named name w.goal)) (without (work_parts w) n)
      (append-nil (parts (without_named name w.goal)) ∙ part.others ∙ ap (λ (fs : List Formula). without fs n) (sym (rest_parts w nothing)))

  pub dropped_to : (t : Tree) → Moves (length w.goal.vars) (length (work_parts w)) (left_of_work w) (star (without (work_parts w) n)) t → Moves (length w.goal.vars) (length (work_parts w)) (left_of_work w) (left_of_work (resting (without_named name w.goal))) t
  dropped_to t m = subst (λ (y : Formula). Moves (length w.goal.vars) (length (work_parts w)) (left_of_work w) y t) without_is m

  pub clear_moved : (new : Work) (t : Tree) → new ≡ resting (without_named name w.goal) → Moves (length w.goal.vars) (length (work_parts w)) (left_of_work w) (left_of_work (resting (without_named name w.goal))) t → conclusion t ≡ entail (length w.goal.vars) (left_of_work w) (left_of_work new)
  clear_moved new t is m = m.concludes ∙ ap (λ (x : Work). entail (length w.goal.vars) (left_of_work w) (left_of_work x)) (sym is)

  pub cleared : (new : Work) (t : Tree) (r : Result (Parts Place) StepFault) → new ≡ resting (without_named name w.goal)
      → Moves (length w.goal.vars) (length (work_parts w)) (left_of_work w) (left_of_work (resting (without_named name w.goal))) t → MovesTo w new t r
      → Answers (all_nodes (work_formulas w)) w (limited (on_goal (clear name) w)) r
  cleared new t r is m to =
      let s : ℕ = all_nodes (work_formulas w) in
      let to1 : MovesTo w (resting (without_named name w.goal)) t r = subst (λ (x : Work). MovesTo w x t r) is to in
      on_rest s w (clear name) r nothing
      (required s w (has_hyp_or_fact w.goal name) NoSuchHypothesis name (gives_goal (without_named name w.goal)) r part.has
      (moves_answer s w (resting (without_named name w.goal)) t r (omega arith) m to1))

pub clear_refused : (s : ℕ) (w : Work) (name : Named) (f : StepFault) → w.held ≡ [] → place_named name w.goal ≡ None → Refuses NoSuchHypothesis name f → Answers s w (limited (on_goal (clear name) w)) (Err f)
clear_refused s w name f nothing none h =
    on_rest s w (clear name) (Err f) nothing
    (not_required s w (has_hyp_or_fact w.goal name) NoSuchHypothesis name (gives_goal (without_named name w.goal)) f (no_part name w.goal none).has h)
