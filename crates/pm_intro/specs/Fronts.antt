-- What is last in hand in front of the star.
use Rattle.std.specs.Prelude.{◌+◌, ◌*◌, [], length}
use Rattle.pm_logic.specs.declared.formula.Formula.{Formula}
use Rattle.pm_logic.specs.declared.formula.Formula.TheViews as view
use Rattle.pm_goal.specs.declared.work.Held.{Held}
use Rattle.pm_goal.specs.declared.work.Work.{Work}
use Rattle.pm_goal.specs.Left.{of_kind, left_of_work}
use Rattle.pm_proof.specs.Trees.{Tree, entail}
use Rattle.pm_proof.specs.Known.{Proves, Every}
use Rattle.pm_table.specs.Limits.{all_nodes, work_formulas}
use Rattle.pm_action.specs.Meanings.{height, width}
use Rattle.pm_intro.specs.Hands.{rest}

-- from the part to q, each beside what is left of the star
abbrev pub IsBeside : Work → Held → Formula → Tree → Type 0
IsBeside w l q t = Proves Every (entail (length w.goal.vars) (view.Sep (of_kind l.kind l.formula) (left_of_work (rest w))) (view.Sep q (left_of_work (rest w)))) [] (200 * all_nodes (work_formulas w) + 202) (height w + 12) (width w) t

-- from the star to q beside what is left of it
abbrev pub IsFront : Work → Formula → Tree → Type 0
IsFront w q t = Proves Every (entail (length w.goal.vars) (left_of_work w) (view.Sep q (left_of_work (rest w)))) [] (300 * all_nodes (work_formulas w) + 203) (height w + 12) (width w) t
