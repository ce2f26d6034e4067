use Rattle.std.proofs.Common.{◌≡◌, length, refl, subst, Some, None}
use Rattle.pm_apply.specs.Reaching.{ReachAnswer}
use Rattle.pm_apply.proofs.Applied.{answer_known, not_applied}
use Rattle.pm_apply.proofs.applying.apply.Goals as goal

pub give-requires-clause-reached : goal.give-requires-clause-reached
give-requires-clause-reached c =
    subst (λ k. ReachAnswer k c.in_ok-whole.whole c.in_ok-shared.shared c.args.work.now.goal.concl c.last-held.result.now.formula (Some c.in-Some.reached)) c.len-vars.ensures
    (subst (ReachAnswer c.len-vars.result c.in_ok-whole.whole c.in_ok-shared.shared c.args.work.now.goal.concl c.last-held.result.now.formula) c.in-Some.is c.in_ok-found.ensures)
