use Rattle.std.proofs.Common.{◌∙◌, ap, subst, Some}
use Rattle.pm_hand.specs.Looking.{LookedUp}
use Rattle.pm_hand.proofs.Takes.{fact_is_lent, none_lent}
use Rattle.pm_hand.proofs.taking.lend.Goals as goal

pub returns-in-Some-Fact : goal.returns-in-Some-Fact
returns-in-Some-Fact c =
    let l = subst (LookedUp c.args.work.now.goal c.args.name.now) (c.in-Some-Fact.is ∙ ap Some c.in-Some-Fact.field-0-is) c.in_ok-found.ensures in
    fact_is_lent c.args.work.now c.args.name.now c.in-Some-Fact.pure c.lend_fact.result l.named c.lend_fact.ensures

pub returns-in-None : goal.returns-in-None
returns-in-None c =
    none_lent c.args.work.now c.args.name.now c.refuse.result (subst (LookedUp c.args.work.now.goal c.args.name.now) c.in-None.is c.in_ok-found.ensures) c.refuse.ensures
