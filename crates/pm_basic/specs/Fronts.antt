-- A part brought to the front of a star.
use Rattle.std.specs.Prelude.{◌≡◌, length}
use Rattle.pm_goal.specs.declared.work.Work.{Work}
use Rattle.pm_goal.specs.Left.{left_of_work}
use Rattle.pm_logic.specs.declared.formula.Formula.{Formula}
use Rattle.pm_logic.specs.declared.formula.Formula.TheViews as view
use Rattle.pm_star.specs.Stars.{work_parts, Moves}
use Rattle.pm_basic.specs.declared.reverting.Front.{Front}

-- from the star to the part beside the star of the others
pub record IsFront (w : Work) (a rest : Formula) (f : Front) : Type 0 where
  pub part : f.part ≡ a
  pub moved : Moves (length w.goal.vars) (length (work_parts w)) (left_of_work w) (view.Sep a rest) f.moved
