use Rattle.std.proofs.Common.{◌++◌, ap, reverse, ◌∙◌, List}
use Rattle.pm_goal.specs.declared.goal.Goal.{Goal}
use Rattle.pm_run.proofs.Endings.{turned}
use Rattle.pm_run.proofs.halted.goals_of.Goals as goal

pub returns : goal.returns
returns c = turned c.args.proof.goals c.add_goals.new.goals (c.in_ok-add_goals.ensures ∙ ap (λ (gs : List Goal). c.args.proof.goals ++ reverse gs) c.new-first.ensures)
