-- How a conclusion is reached from what is applied, in a context of which the shared part may be used again.
use Rattle.std.specs.Prelude.{◌≡◌, ℕ, zero, suc, ◌+◌, ◌*◌, ◌≤◌, Bool, cond, List, [], ◌∷◌, ◌++◌, Option, Some, None, reverse, length}
use Rattle.pm_logic.specs.declared.formula.Formula.{Formula}
use Rattle.pm_logic.specs.declared.formula.Formula.TheViews as view
use Rattle.pm_logic.specs.declared.formula.Preds.{Preds}
use Rattle.pm_logic.specs.Scope.{Scoped}
use Rattle.pm_logic.specs.Size.{depth_of, nodes_of}
use Rattle.pm_goal.specs.declared.goal.Goal.{Goal}
use Rattle.pm_goal.specs.declared.work.Work.{Work}
use Rattle.pm_goal.specs.declared.work.Held.{Held}
use Rattle.pm_goal.specs.Left.{of_kind, left_of, left_of_work}
use Rattle.pm_rules.specs.declared.rules.Entail.{Entail}
use Rattle.pm_proof.specs.Trees.{Tree, entail}
use Rattle.pm_proof.specs.Known.{Proves, Every}
use Rattle.pm_schemes.specs.Sketches.{deepest}
use Rattle.pm_star.specs.Stars.{star, shared, work_parts}
use Rattle.pm_classes.specs.declared.entry.Pair.{Pair}
use Rattle.pm_table.specs.Terms.{premises, keeping}
use Rattle.pm_table.specs.Works.{with_concl, work_of, holding}
use Rattle.pm_action.specs.Meanings.{meaning, height, width}
use Rattle.pm_action.specs.Acting.{all_but_last}
use Rattle.pm_apply.specs.declared.reaching.Reached.{Reached}

-- the context beside what is applied
abbrev pub ground : (l s r : Formula) → Formula
ground l s r = view.Sep (view.Sep l (view.Pers s)) r

-- the last premise has the whole context, the others its shared part
abbrev pub left_for : (l s : Formula) → List Formula → Formula
left_for l s [] = l
left_for l s (q ∷ qs) = s

-- what is to be proved of the premises
abbrev pub wanted : ℕ → (l s : Formula) → List Formula → List Entail
wanted k l s [] = []
wanted k l s (p ∷ ps) = entail k (left_for l s ps) p ∷ wanted k l s ps

-- the rules from a formula of so many nodes on, each wand having fewer than the one before
abbrev pub steps_for : ℕ → ℕ
steps_for zero = 0
steps_for (suc n) = steps_for n + (200 * suc n + 40)

-- from what is to be proved of the premises: the context beside r entails c
abbrev pub Reaches : ℕ → (l s c r : Formula) → List Formula → Tree → Type 0
Reaches k l s c r ps t = Proves Every (entail k (ground l s r) c) (wanted k l s ps) (steps_for (nodes_of r)) (deepest (l ∷ s ∷ r ∷ c ∷ []) [] + 8) (k + depth_of r) t

pub record IsReached (k : ℕ) (l s c r : Formula) (ps : List Formula) (x : Reached) : Type 0 where
  pub premises : reverse x.premises ≡ ps
  pub proof : Reaches k l s c r ps x.proof

-- by the wand, a premise more than by what is behind it
abbrev pub IsOneMore : ℕ → (l s c r : Formula) → Pair → Reached → Reached → Type 0
IsOneMore k l s c r entry inner x = (p : Formula) (ps : List Formula) → IsReached k l s c entry.second (p ∷ ps) inner → IsReached k l s c r (entry.first ∷ p ∷ ps) x

abbrev pub ReachAnswers : ℕ → (l s c r : Formula) → Option (List Formula) → Option Reached → Type 0
ReachAnswers k l s c r None None = Unit {0}
ReachAnswers k l s c r None (Some x) = ⊥
ReachAnswers k l s c r (Some ps) None = ⊥
ReachAnswers k l s c r (Some ps) (Some x) = IsReached k l s c r ps x

abbrev pub ReachAnswer : ℕ → (l s c r : Formula) → Option Reached → Type 0
ReachAnswer k l s c r x = ReachAnswers k l s c r (premises c r) x

-- ---- goals of premises

-- with all spatial hypotheses, or with none
abbrev pub goal_for : Goal → Bool → Formula → Goal
goal_for goal last p = cond last (with_concl p goal) (keeping [] p goal)

-- ---- from the star of a work

-- without what is in hand before the last
abbrev pub one_fewer : Work → Held → Work
one_fewer w l = work_of w.goal (all_but_last (all_but_last w.held) ++ holding l.kind l.formula ∷ [])

-- from the star to the part beside the star of the goal, which are scoped where the star is, and not deeper
pub record IsBeside (w : Work) (part : Formula) (t : Tree) : Type 0 where
  pub proves : Proves Every (entail (length w.goal.vars) (left_of_work w) (view.Sep part (left_of w.goal))) [] (length w.held * (100 * length (work_parts w) + 101)) (height w + 10) (length w.goal.vars) t
  pub scoped : (preds : Preds) → Scoped preds (length w.goal.vars) (left_of_work w) → Scoped preds (length w.goal.vars) (view.Sep part (left_of w.goal))
  pub part_depth : depth_of part ≤ height w
  pub left_depth : depth_of (left_of w.goal) ≤ height w + 1

-- the star of what may be used again
abbrev pub shared_star : Goal → Formula
shared_star goal = star (shared goal)

-- what is to be proved of the premises, in the contexts of the work
abbrev pub wanted_of : Work → List Formula → List Entail
wanted_of w ps = wanted (length w.goal.vars) (left_of w.goal) (shared_star w.goal) ps

-- what is last in hand beside the star of the goal entails the conclusion, around a proof in the context
abbrev pub IsInContext : Work → Held → Tree → Tree → Type 0
IsInContext w l by t = (ps : List Formula) → Reaches (length w.goal.vars) (left_of w.goal) (shared_star w.goal) w.goal.concl l.formula ps by
    → Proves Every (entail (length w.goal.vars) (view.Sep (of_kind l.kind l.formula) (left_of w.goal)) w.goal.concl) (wanted_of w ps) (steps_for (nodes_of l.formula) + 100 * length (work_parts w) + 111) (height w + 14) (width w) t

-- what the work means, around such a proof
abbrev pub IsOpened : Work → Held → Tree → Tree → Type 0
IsOpened w l by t = (ps : List Formula) → Reaches (length w.goal.vars) (left_of w.goal) (shared_star w.goal) w.goal.concl l.formula ps by
    → Proves Every (meaning w) (wanted_of w ps) (steps_for (nodes_of l.formula) + 100 * length (work_parts w) + 112 + length w.held * (100 * length (work_parts w) + 101)) (height w + 14) (width w) t
