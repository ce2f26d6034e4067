-- What is done with one work alone.
use Rattle.std.specs.Prelude.{Bool, true, false, List, [], ◌∷◌, reverse}
use Rattle.pm_goal.specs.declared.goal.Goal.{Goal}
use Rattle.pm_goal.specs.declared.work.Work.{Work}
use Rattle.pm_table.specs.Outcomes.{Action}
use Rattle.pm_table.specs.Works.{Named}
use Rattle.pm_table.specs.Running.{Run, for_each}
use Rattle.pm_table.specs.Basic.{on_goal, clear, revert}
use Rattle.pm_table.specs.Terms.{frame_member}
use Rattle.pm_table.specs.Patterns.{fact_names, int_names, spat_names, intro_alls, intro_premises}
use Rattle.pm_directives.specs.declared.groups.Group.{Group}
use Rattle.pm_directives.specs.declared.groups.Group.TheVariants as group
use Rattle.pm_directives.specs.declared.groups.Each.{Each}
use Rattle.pm_directives.specs.declared.groups.Each.TheVariants as each
use Rattle.pm_directives.specs.declared.groups.Alone.{Alone}
use Rattle.pm_directives.specs.declared.groups.Alone.TheVariants as alone

abbrev pub group_names : Group → Goal → List Named
group_names group.Facts goal = fact_names goal
group_names group.Ints goal = int_names goal
group_names group.Spats goal = spat_names goal

abbrev pub each_action : Each → Named → Action
each_action each.Clear h = on_goal (clear h)
each_action each.Revert h = on_goal (revert h)
each_action each.Frame h = frame_member h

abbrev pub alone_run : Alone → Work → Run
alone_run (alone.Clear g) w = for_each (each_action each.Clear) (group_names g w.goal) w
alone_run (alone.Revert g) w = for_each (each_action each.Revert) (reverse (group_names g w.goal)) w
alone_run (alone.Frame g) w = for_each (each_action each.Frame) (group_names g w.goal) w
alone_run alone.Alls w = intro_alls w
alone_run alone.AllsWands w = intro_premises w

abbrev pub is_some_action : List Action → Bool
is_some_action [] = false
is_some_action (a ∷ more) = true
