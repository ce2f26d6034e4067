use Rattle.std.proofs.Common.{refl, append-nil, ◌++◌, ap, sym, ◌∙◌}
use Rattle.pm_apply.proofs.PremiseGoals.{one_made, all_made}
use Rattle.pm_apply.proofs.premises.goals_for.Goals as goal

pub loop-premise-preserved : goal.loop-premise-preserved
loop-premise-preserved c =
    one_made c.args.goal.now c.args.premises c.loop-premise.left c.pop.new.self c.in-Some.premise c.is_empty-last.result c.in_ok-goal_for.field-0 c.loop-premise.places c.push.new.self c.loop-premise.invariant
    c.in-Some.ensures.items c.is_empty-last.ensures c.in_ok-goal_for.ensures c.in_ok-push.ensures.ok
