use Rattle.pm_apply.proofs.PremiseGoals.{last_goal, other_goal}
use Rattle.pm_apply.proofs.premises.goal_for.Goals as goal

pub returns-then-last : goal.returns-then-last
returns-then-last c = last_goal c.args.goal.now c.in_ok-new.new c.args.last c.args.premise c.in_ok-new.ensures c.if-last.true

pub returns : goal.returns
returns c = other_goal c.args.goal.now c.in_ok-new.new c.new.result c.args.last c.args.premise c.in_ok-new.ensures c.new.ensures c.if-last.false
