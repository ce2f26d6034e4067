-- Updates of a part of the star, and what follows from the new part.
use Rattle.std.specs.Prelude.{◌≡◌, ℕ, ◌+◌, ◌*◌, ◌≤◌, List, [], ◌∷◌, length, is_some}
use Rattle.std.specs.List.{AllByRecursion}
use Rattle.pm_logic.specs.declared.formula.Term.{Term}
use Rattle.pm_logic.specs.declared.formula.Formula.{Formula}
use Rattle.pm_logic.specs.declared.formula.Formula.TheVariants.{Pts}
use Rattle.pm_logic.specs.declared.formula.Formula.TheViews as view
use Rattle.pm_logic.specs.declared.formula.TheConstants.{UNIT}
use Rattle.pm_logic.specs.declared.formula.Preds.{Preds}
use Rattle.pm_logic.specs.Scope.{Scoped}
use Rattle.pm_rules.specs.declared.rules.Entail.{Entail}
use Rattle.pm_goal.specs.declared.goal.Hyp.{Hyp}
use Rattle.pm_goal.specs.declared.goal.Goal.{Goal}
use Rattle.pm_goal.specs.declared.work.Work.{Work}
use Rattle.pm_goal.specs.declared.refusal.Row.TheVariants.{NotSpatial, NotFullPointsTo, ConclusionNotUpdate}
use Rattle.pm_goal.specs.Left.{left_of_work}
use Rattle.pm_proof.specs.Trees.{Tree, entail, conclusion}
use Rattle.pm_proof.specs.Valid.{EntailScoped}
use Rattle.pm_proof.specs.Known.{Proves, Every}
use Rattle.pm_schemes.specs.Sketches.{deepest}
use Rattle.pm_star.specs.Stars.{work_parts}
use Rattle.pm_table.specs.Outcomes.{Outcome, require_some, require_entry, require_plain}
use Rattle.pm_table.specs.Works.{Named, hyp, hyp_named}
use Rattle.pm_table.specs.Basic.{gives_goal}
use Rattle.pm_table.specs.Heap.{full_location, put}
use Rattle.pm_table.specs.Modalities.{under_update}
use Rattle.pm_action.specs.Meanings.{meaning, height}

-- from an update of a to b, and from b beside x to the update of q: the same from a beside x. That b is scoped is shown where it
-- is known
pub record Runs (k : ℕ) (a b x q : Formula) (update follows t : Tree) : Type 0 where
  pub concludes : conclusion t ≡ entail k (view.Sep a x) (view.Upd q)
  pub proves : (hs : List Entail) (n m d j : ℕ) → deepest (a ∷ b ∷ x ∷ q ∷ []) [] + 3 ≤ d → k ≤ j
      → Proves Every (conclusion update) [] n d j update → Proves Every (conclusion follows) hs m d j follows
      → ((preds : Preds) → AllByRecursion (EntailScoped preds) hs → Scoped preds k b)
      → Proves Every (entail k (view.Sep a x) (view.Upd q)) hs (20 + n + m) d j t

-- from what the new work means, which is the hole: its conclusion, by the part beside the star of the rest
abbrev pub Reaches : Work → Formula → Work → Tree → Type 0
Reaches rest a new t = Proves Every (entail (length rest.goal.vars) (view.Sep a (left_of_work rest)) new.goal.concl) (meaning new ∷ []) (100 * (length (work_parts rest) + 1) + 1) (height new + 16) (length rest.goal.vars) t

-- from what the new work means: the update of q, by the old part beside the star of the rest, from an update of the old part to
-- the new one
pub record RunsTo (rest : Work) (a b q : Formula) (update : Tree) (new : Work) (t : Tree) : Type 0 where
  pub concludes : conclusion t ≡ entail (length rest.goal.vars) (view.Sep a (left_of_work rest)) (view.Upd q)
  pub proves : (n d j : ℕ) → deepest (a ∷ b ∷ left_of_work rest ∷ q ∷ []) [] + 3 ≤ d → height new + 16 ≤ d → length rest.goal.vars ≤ j
      → Proves Every (conclusion update) [] n d j update
      → Proves Every (entail (length rest.goal.vars) (view.Sep a (left_of_work rest)) (view.Upd q)) (meaning new ∷ []) (20 + n + (100 * (length (work_parts rest) + 1) + 1)) d j t

-- the row of writing, where the hypothesis is spatial
abbrev pub write_row : Named → Formula → Term → Goal → Outcome
write_row h f t goal =
    require_entry (full_location f) NotFullPointsTo (λ l.
    require_plain (is_some (under_update goal.concl)) ConclusionNotUpdate (
    gives_goal (put h (Pts l UNIT t) goal)))
