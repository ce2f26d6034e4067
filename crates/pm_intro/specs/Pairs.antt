-- What stands in place of what is last in hand, and which way is tried.
use Rattle.std.specs.Prelude.{◌+◌, ◌*◌, max, [], length}
use Rattle.pm_goal.specs.declared.work.Work.{Work}
use Rattle.pm_goal.specs.Left.{left_of_work}
use Rattle.pm_patterns.specs.declared.pattern.Pat.{Pat}
use Rattle.pm_proof.specs.Trees.{Tree, entail}
use Rattle.pm_proof.specs.Known.{Proves, Every}
use Rattle.pm_classes.specs.Classes.{into_exist}
use Rattle.pm_table.specs.Outcomes.{Outcome}
use Rattle.pm_table.specs.Limits.{all_nodes, work_formulas}
use Rattle.pm_table.specs.Works.{Hand}
use Rattle.pm_table.specs.Destructs.{third_way, fourth_way, var_name, is_drop}
use Rattle.pm_action.specs.Meanings.{height, width}

-- a proof from the star to the new one's
abbrev pub Becomes : Work → Work → Tree → Type 0
Becomes w new t = Proves Every (entail (length w.goal.vars) (left_of_work w) (left_of_work new)) [] (300 * all_nodes (work_formulas w) + 202) (max (height w) (height new) + 16) (width w) t

-- one part of a conjunction, where the pattern of the other drops it
abbrev pub fourth : Work → Hand → Pat → Pat → Outcome
fourth w hand p q = fourth_way w hand hand.last.kind (is_drop p) (is_drop q)

-- what is tried where there are no two parts
abbrev pub other_ways : Work → Hand → Pat → Pat → Outcome
other_ways w hand p q = third_way w hand (var_name w.goal p) (into_exist hand.last.formula) (fourth w hand p q)
