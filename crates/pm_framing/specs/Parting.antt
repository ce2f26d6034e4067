-- The star of a work as one part of it beside what is left, and proofs that go over what framing leaves of the conclusion.
use Rattle.std.specs.Prelude.{◌≡◌, ℕ, ◌+◌, ◌*◌, ◌≤◌, max, [], ◌∷◌, length}
use Rattle.pm_logic.specs.declared.formula.Formula.{Formula}
use Rattle.pm_logic.specs.declared.formula.Formula.TheViews as view
use Rattle.pm_logic.specs.declared.formula.Preds.{Preds}
use Rattle.pm_logic.specs.Scope.{Scoped}
use Rattle.pm_logic.specs.Size.{depth_of, nodes_of}
use Rattle.pm_goal.specs.declared.work.Work.{Work}
use Rattle.pm_goal.specs.Left.{left_of_work}
use Rattle.pm_proof.specs.Trees.{Tree, entail}
use Rattle.pm_proof.specs.Known.{Proves, Every}
use Rattle.pm_schemes.specs.Sketches.{deepest}
use Rattle.pm_star.specs.Stars.{work_parts}
use Rattle.pm_action.specs.Meanings.{meaning, height, width}

-- from the star to the part beside l, which are scoped where the star is, and not deeper
pub record IsApart (w : Work) (part l : Formula) (t : Tree) : Type 0 where
  pub proves : Proves Every (entail (length w.goal.vars) (left_of_work w) (view.Sep part l)) [] (100 * length (work_parts w) + 100) (height w + 10) (length w.goal.vars) t
  pub scoped : (preds : Preds) → Scoped preds (length w.goal.vars) (left_of_work w) → Scoped preds (length w.goal.vars) (view.Sep part l)
  pub part_depth : depth_of part ≤ height w
  pub left_depth : depth_of l ≤ height w + 1

-- what is left of the star: scoped where that is, and not deeper
pub record IsLess (w : Work) (l : Formula) : Type 0 where
  pub scoped : (preds : Preds) → Scoped preds (length w.goal.vars) (left_of_work w) → Scoped preds (length w.goal.vars) l
  pub depth : depth_of l ≤ height w + 1

-- from l ⊢ g: part ∗ l ⊢ q, where r is the part without its box
abbrev pub FrameStep : ℕ → Formula → Formula → Formula → Formula → Formula → Tree → Type 0
FrameStep k part r l g q t = Proves Every (entail k (view.Sep part l) q) (entail k l g ∷ []) (200 * nodes_of q + 3) (deepest (r ∷ l ∷ g ∷ q ∷ []) [] + 8) (k + depth_of q) t

-- what the work means, from l ⊢ g
abbrev pub Opens : Work → Formula → Formula → Tree → Type 0
Opens w l g t = Proves Every (meaning w) (entail (length w.goal.vars) l g ∷ []) (100 * length (work_parts w) + 200 * nodes_of w.goal.concl + 104) (max (height w) (depth_of g) + 10) (width w) t
