use Rattle.pm_apply.proofs.Applied.{rule_known, premises_known, box_hole, by_hole, in_context}
use Rattle.pm_apply.proofs.applying.beside_goal.Goals as goal

pub fill-requires : goal.fill-requires
fill-requires c =
    box_hole c.args.work.now c.args.held.now c.requires.last c.in_ok-rule.rule c.in_ok-boxed.boxed
    (rule_known c.args.work.now c.args.held.now c.requires.last c.len-vars.result c.args.whole.now c.args.shared.now c.in_ok-rule.rule c.len-vars.ensures c.requires.whole c.requires.shared c.in_ok-rule.ensures) c.in_ok-boxed.ensures

pub fill-requires-2 : goal.fill-requires-2
fill-requires-2 c =
    let some = premises_known c.args.work.now c.args.held.now c.args.whole.now c.args.shared.now c.args.by c.requires.whole c.requires.shared c.requires.by in
    by_hole c.args.work.now c.args.held.now c.requires.last c.in_ok-rule.rule c.in_ok-boxed.boxed c.fill.result c.args.by some.0
    (rule_known c.args.work.now c.args.held.now c.requires.last c.len-vars.result c.args.whole.now c.args.shared.now c.in_ok-rule.rule c.len-vars.ensures c.requires.whole c.requires.shared c.in_ok-rule.ensures) c.in_ok-boxed.ensures c.fill.ensures.proves some.1

pub returns : goal.returns
returns c =
    in_context c.args.work.now c.args.held.now c.requires.last c.in_ok-rule.rule c.in_ok-boxed.boxed c.fill.result c.fill-2.result c.args.by
    (rule_known c.args.work.now c.args.held.now c.requires.last c.len-vars.result c.args.whole.now c.args.shared.now c.in_ok-rule.rule c.len-vars.ensures c.requires.whole c.requires.shared c.in_ok-rule.ensures) c.in_ok-boxed.ensures c.fill.ensures.proves c.fill-2.ensures.proves
