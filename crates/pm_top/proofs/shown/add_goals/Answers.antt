use Rattle.pm_top.proofs.ShownAnswers.{none_added, goal_added}
use Rattle.pm_top.proofs.shown.add_goals.Goals as goal

pub loop-i-init : goal.loop-i-init
loop-i-init c = none_added c.args.preds.now.list c.args.text.now

pub loop-i-preserved : goal.loop-i-preserved
loop-i-preserved c = goal_added c.args.preds.now.list c.args.goals.now c.loop-i.i c.index-goals-i.result c.args.text.now c.loop-i.text c.add_goal.new.text c.loop-i-test.true c.index-goals-i.is c.loop-i.invariant c.in_ok-add_goal.ensures
