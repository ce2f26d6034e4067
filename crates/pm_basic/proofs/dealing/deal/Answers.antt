use Rattle.std.proofs.Common.{◌<◌, ◌^◌, length, sym, ◌∙◌, ap, subst, arith}
use Rattle.std.specs.Option.{option_copied}
use Rattle.pm_goal.specs.declared.work.Work.{Work}
use Rattle.pm_table.specs.Limits.{resting}
use Rattle.pm_basic.proofs.Dealt.{deal_few, deal_vars, deal_meet, deal_ends}
use Rattle.pm_basic.proofs.dealing.deal.Goals as goal

pub both-requires-clause-few : goal.both-requires-clause-few
both-requires-clause-few c = subst (λ (x : Work). length x.goal.vars < 2 ^ 32) (sym (c.at_rest-first.ensures ∙ ap resting c.in_ok-left.ensures)) (omega (arith, c.requires.handed.few))

pub both-requires-clause-same : goal.both-requires-clause-same
both-requires-clause-same c =
    deal_few c.args.work.now c.args.a.now c.args.b.now c.args.named (option_copied c.args.names) c.at_rest-first.result c.at_rest-second.result
    (c.at_rest-first.ensures ∙ ap resting c.in_ok-left.ensures) (c.at_rest-second.ensures ∙ ap resting c.in_ok-right.ensures)

pub compose-requires-clause-vars : goal.compose-requires-clause-vars
compose-requires-clause-vars c =
    deal_vars c.args.work.now c.args.a.now c.args.b.now c.args.named (option_copied c.args.names) c.at_rest-first.result c.at_rest-second.result
    (c.at_rest-first.ensures ∙ ap resting c.in_ok-left.ensures) (c.at_rest-second.ensures ∙ ap resting c.in_ok-right.ensures) c.in_ok-moved.moved c.in_ok-step.step c.in_ok-moved.ensures.concludes c.in_ok-step.ensures

pub compose-requires-clause-meet : goal.compose-requires-clause-meet
compose-requires-clause-meet c =
    deal_meet c.args.work.now c.args.a.now c.args.b.now c.args.named (option_copied c.args.names) c.at_rest-first.result c.at_rest-second.result
    (c.at_rest-first.ensures ∙ ap resting c.in_ok-left.ensures) (c.at_rest-second.ensures ∙ ap resting c.in_ok-right.ensures) c.in_ok-moved.moved c.in_ok-step.step c.in_ok-moved.ensures.concludes c.in_ok-step.ensures

pub returns : goal.returns
returns c =
    deal_ends c.args.work.now c.args.a.now c.args.b.now c.args.named (option_copied c.args.names) c.at_rest-first.result c.at_rest-second.result
    (c.at_rest-first.ensures ∙ ap resting c.in_ok-left.ensures) (c.at_rest-second.ensures ∙ ap resting c.in_ok-right.ensures) c.in_ok-moved.moved c.in_ok-step.step c.in_ok-proof.proof c.finish_two.result
    c.requires.concl c.in_ok-moved.ensures c.in_ok-step.ensures c.in_ok-proof.ensures.proves c.finish_two.ensures
