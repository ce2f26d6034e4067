use Rattle.std.proofs.Common.{◌≡◌, ◌<◌, subst, Some, None, arith}
use Rattle.pm_logic.specs.Size.{nodes_of}
use Rattle.pm_classes.specs.Classes.{parts}
use Rattle.pm_classes.specs.Entries.{WandAnswer}
use Rattle.pm_apply.specs.Reaching.{ReachAnswer}
use Rattle.pm_apply.proofs.Wands.{second_smaller}
use Rattle.pm_apply.proofs.Onward.{has_wand, no_wand_answers, last_answers, none_behind_answers, behind_says, more_answers}
use Rattle.pm_apply.proofs.reaching.+reach_by_wands.Goals as goal

pub returns-in_default : goal.returns-in_default
returns-in_default t c = no_wand_answers c.args.vars c.args.whole.now c.args.shared.now c.args.concl.now c.args.r.now c.requires (subst (WandAnswer c.args.vars c.args.r.now) c.in_default.is c.in_ok-found.ensures)

pub returns-then-same : goal.returns-then-same
returns-then-same t c =
    last_answers c.args.vars c.args.whole.now c.args.shared.now c.args.concl.now c.args.r.now c.in-Some.entry c.in_ok-last.last c.requires
    (subst (WandAnswer c.args.vars c.args.r.now) c.in-Some.is c.in_ok-found.ensures) (c.same.ensures.0 c.if-same.true) c.in_ok-last.ensures

pub reach_by_wands-requires : goal.reach_by_wands-requires
reach_by_wands-requires t c =
    let less = second_smaller c.args.r.now (parts c.in-Some.entry.first c.in-Some.entry.second) (has_wand c.args.vars c.args.r.now c.in-Some.entry (subst (WandAnswer c.args.vars c.args.r.now) c.in-Some.is c.in_ok-found.ensures)).row in
    let falls : nodes_of c.in-Some.entry.second < t = omega (arith, less, c.decreases) in
    (falls, λ e. let holds = c.same.ensures.1 e in absurd cc)

pub returns-in_default-behind : goal.returns-in_default-behind
returns-in_default-behind t c =
    none_behind_answers c.args.vars c.args.whole.now c.args.shared.now c.args.concl.now c.args.r.now c.in-Some.entry c.requires (subst (WandAnswer c.args.vars c.args.r.now) c.in-Some.is c.in_ok-found.ensures)
    (subst (ReachAnswer c.args.vars c.args.whole.now c.args.shared.now c.args.concl.now c.in-Some.entry.second) c.in_default-behind.is c.in_ok-behind.ensures)

pub returns : goal.returns
returns t c =
    more_answers c.args.vars c.args.whole.now c.args.shared.now c.args.concl.now c.args.r.now c.in-Some.entry c.in-Some-behind.inner c.in_ok-more.more c.requires
    (λ e. let holds = c.same.ensures.1 e in absurd cc)
    (subst (WandAnswer c.args.vars c.args.r.now) c.in-Some.is c.in_ok-found.ensures)
    (subst (ReachAnswer c.args.vars c.args.whole.now c.args.shared.now c.args.concl.now c.in-Some.entry.second) c.in-Some-behind.is c.in_ok-behind.ensures) c.in_ok-more.ensures
