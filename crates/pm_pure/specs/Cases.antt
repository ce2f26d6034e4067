-- The two goals of a case distinction, and what is known of the proofs that lead to them.
use Rattle.std.specs.Prelude.{◌≡◌, ◌+◌, ◌*◌, [], ◌∷◌, length}
use Rattle.pm_logic.specs.declared.formula.Pure.{Pure}
use Rattle.pm_logic.specs.declared.formula.Formula.TheVariants.{Pure as Assert}
use Rattle.pm_logic.specs.declared.formula.Formula.TheViews as view
use Rattle.pm_goal.specs.declared.work.Work.{Work}
use Rattle.pm_goal.specs.Left.{left_of_work}
use Rattle.pm_proof.specs.Trees.{Tree, entail}
use Rattle.pm_proof.specs.Known.{Proves, Every}
use Rattle.pm_star.specs.Stars.{work_parts}
use Rattle.pm_table.specs.declared.place.Place.TheVariants.{Current as current}
use Rattle.pm_table.specs.Limits.{resting}
use Rattle.pm_table.specs.Works.{Named, with_fact}
use Rattle.pm_action.specs.Meanings.{meaning, meanings, room, width}

-- the new work has the fact besides
pub record IsCase (w : Work) (p : Pure) (new : Work) : Type 0 where
  pub name : Named
  pub is : new ≡ resting (with_fact name p w.goal)

-- from the fact beside the star to the conclusion, from what the new work means
abbrev pub CaseShown : Work → Pure → Work → Tree → Type 0
CaseShown w p new t =
    Proves Every (entail (length w.goal.vars) (view.Sep (Assert p) (left_of_work w)) w.goal.concl) (meaning new ∷ []) (100 * length (work_parts w) + 101) (room w (current [] new ∷ [])) (width w) t

-- from the star to the conclusion, from what both new works mean
abbrev pub CasesShown : Work → (first second : Work) → Tree → Type 0
CasesShown w first second t =
    let ps = current [] first ∷ current [] second ∷ [] in
    Proves Every (meaning w) (meanings ps) (200 * length (work_parts w) + 212) (room w ps) (width w) t
