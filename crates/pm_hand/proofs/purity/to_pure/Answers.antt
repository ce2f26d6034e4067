use Rattle.std.proofs.Common.{sym, subst, length, ◌∙◌}
use Rattle.pm_goal.specs.Left.{of_kind}
use Rattle.pm_classes.specs.Entries.{IntoPureAnswer}
use Rattle.pm_hand.proofs.Known.{not_pure, name_taken}
use Rattle.pm_hand.proofs.purity.to_pure.Goals as goal

pub enter-requires-clause-entry : goal.enter-requires-clause-entry
enter-requires-clause-entry c =
    subst (IntoPureAnswer (length c.args.work.now.goal.vars) (of_kind c.last-held.result.now.kind c.last-held.result.now.formula)) c.in-Some.is c.in_ok-found.ensures

pub returns-in_default : goal.returns-in_default
returns-in_default c =
    not_pure c.args.work.now c.last-held.result.now c.args.name.now c.refuse_plain.result c.last-held.ensures
    (subst (IntoPureAnswer (length c.args.work.now.goal.vars) (of_kind c.last-held.result.now.kind c.last-held.result.now.formula)) c.in_default.is c.in_ok-found.ensures) c.refuse_plain.ensures

pub returns-then-not-is_free : goal.returns-then-not-is_free
returns-then-not-is_free c =
    name_taken c.args.work.now c.last-held.result.now c.args.name.now c.in-Some.entry c.refuse.result c.last-held.ensures
    (subst (IntoPureAnswer (length c.args.work.now.goal.vars) (of_kind c.last-held.result.now.kind c.last-held.result.now.formula)) c.in-Some.is c.in_ok-found.ensures)
    (sym c.is_free.ensures ∙ c.if-not-is_free.true) c.refuse.ensures
