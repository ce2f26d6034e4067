use Rattle.std.proofs.Common.{◌<◌, ◌^◌, length, sym, ◌∙◌, ap, subst, arith}
use Rattle.pm_goal.specs.declared.work.Work.{Work}
use Rattle.pm_table.specs.Limits.{work_formulas, all_nodes, resting}
use Rattle.pm_basic.proofs.Cleared.{place_within}
use Rattle.pm_basic.proofs.Reverted.{reverted_ends, reverted_meet, reverted_vars, revert_refused}
use Rattle.pm_basic.proofs.reverting.revert.Goals as goal

pub returns-in_default : goal.returns-in_default
returns-in_default c = revert_refused (all_nodes (work_formulas c.args.work.now)) c.args.work.now c.args.name.now c.refuse.result c.requires.nothing (sym c.in_default.ensures) c.refuse.ensures

pub to_front-requires-clause-place : goal.to_front-requires-clause-place
to_front-requires-clause-place c = place_within c.args.work.now c.args.name.now c.in-Some.place c.requires.nothing c.requires.handed.apart (sym c.in-Some.ensures)

pub back-requires-clause-vars : goal.back-requires-clause-vars
back-requires-clause-vars c = subst (λ (x : Work). length x.goal.vars < 2 ^ 32) (sym (c.at_rest-new.ensures ∙ ap resting c.in_ok-goal.ensures)) (omega (arith, c.requires.handed.few))

pub back-requires-clause-concl : goal.back-requires-clause-concl
back-requires-clause-concl c = ap (λ (x : Work). x.goal.concl) (c.at_rest-new.ensures ∙ ap resting c.in_ok-goal.ensures)

pub compose-requires-clause-vars : goal.compose-requires-clause-vars
compose-requires-clause-vars c =
    reverted_vars c.args.work.now c.args.name.now c.in-Some.place c.requires.nothing c.requires.handed.apart (sym c.in-Some.ensures) c.at_rest-new.result c.in_ok-front.front c.in_ok-back.back _ _
    c.in_ok-front.ensures (c.at_rest-new.ensures ∙ ap resting c.in_ok-goal.ensures) c.in_ok-back.ensures.concludes

pub compose-requires-clause-meet : goal.compose-requires-clause-meet
compose-requires-clause-meet c =
    reverted_meet c.args.work.now c.args.name.now c.in-Some.place c.requires.nothing c.requires.handed.apart (sym c.in-Some.ensures) c.at_rest-new.result c.in_ok-front.front c.in_ok-back.back _
    c.in_ok-front.ensures (c.at_rest-new.ensures ∙ ap resting c.in_ok-goal.ensures) c.in_ok-back.ensures.concludes

pub returns : goal.returns
returns c =
    reverted_ends c.args.work.now c.args.name.now c.in-Some.place c.requires.nothing c.requires.handed.apart (sym c.in-Some.ensures) c.at_rest-new.result c.in_ok-front.front c.in_ok-back.back c.in_ok-proof.proof c.finish_one.result
    c.in_ok-front.ensures (c.at_rest-new.ensures ∙ ap resting c.in_ok-goal.ensures) c.in_ok-back.ensures c.in_ok-proof.ensures.proves c.finish_one.ensures
