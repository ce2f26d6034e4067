-- The work in which a left side of the conclusion is in hand, and the step from both by and.
use Rattle.std.specs.Prelude.{◌+◌, ◌*◌, [], length}
use Rattle.pm_logic.specs.declared.formula.Formula.{Formula}
use Rattle.pm_logic.specs.declared.formula.Formula.TheViews as view
use Rattle.pm_logic.specs.Size.{nodes_of}
use Rattle.pm_goal.specs.declared.work.Kind.TheVariants.{Spat}
use Rattle.pm_goal.specs.declared.work.Work.{Work}
use Rattle.pm_goal.specs.Left.{left_of_work}
use Rattle.pm_proof.specs.Trees.{Tree, entail}
use Rattle.pm_proof.specs.Known.{Proves, Every}
use Rattle.pm_star.specs.Stars.{work_parts}
use Rattle.pm_table.specs.Works.{with_concl, hold, work_of}
use Rattle.pm_action.specs.Meanings.{height, width}

-- a is held, and b is the conclusion
abbrev pub introduced : Work → Formula → Formula → Work
introduced w a b = hold Spat a (work_of (with_concl b w.goal) w.held)

-- from both by and, to the part beside the star
abbrev pub Splits : Work → Formula → Tree → Type 0
Splits w a t = Proves Every (entail (length w.goal.vars) (view.And (left_of_work w) a) (view.Sep a (left_of_work w))) [] (100 * (length (work_parts w) + 1) + 200 * nodes_of a + 12) (height w + 12) (width w) t
