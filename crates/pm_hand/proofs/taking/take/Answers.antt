use Rattle.std.proofs.Common.{◌∙◌, ap, subst, Some}
use Rattle.pm_hand.specs.Looking.{LookedUp}
use Rattle.pm_hand.proofs.Takes.{hyp_taken, fact_is_taken, none_taken}
use Rattle.pm_hand.proofs.taking.take.Goals as goal

pub take_hyp-requires-clause-at : goal.take_hyp-requires-clause-at
take_hyp-requires-clause-at c =
    let l = subst (LookedUp c.args.work.now.goal c.args.name.now) (c.in-Some-Hyp.is ∙ ap Some c.in-Some-Hyp.field-0-is) c.in_ok-found.ensures in
    l.at

pub returns-in-Some-Hyp : goal.returns-in-Some-Hyp
returns-in-Some-Hyp c =
    let l = subst (LookedUp c.args.work.now.goal c.args.name.now) (c.in-Some-Hyp.is ∙ ap Some c.in-Some-Hyp.field-0-is) c.in_ok-found.ensures in
    hyp_taken c.args.work.now c.args.name.now c.in-Some-Hyp.kind c.in-Some-Hyp.formula c.take_hyp.result l.named c.take_hyp.ensures

pub returns-in-Some-Fact : goal.returns-in-Some-Fact
returns-in-Some-Fact c =
    let l = subst (LookedUp c.args.work.now.goal c.args.name.now) (c.in-Some-Fact.is ∙ ap Some c.in-Some-Fact.field-0-is) c.in_ok-found.ensures in
    fact_is_taken c.args.work.now c.args.name.now c.in-Some-Fact.pure c.take_fact.result l.named c.take_fact.ensures

pub returns-in-None : goal.returns-in-None
returns-in-None c =
    none_taken c.args.work.now c.args.name.now c.refuse.result (subst (LookedUp c.args.work.now.goal c.args.name.now) c.in-None.is c.in_ok-found.ensures) c.refuse.ensures
