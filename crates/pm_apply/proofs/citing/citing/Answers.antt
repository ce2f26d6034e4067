use Rattle.pm_apply.proofs.Citations.{said_hole, new_hole, citing_done}
use Rattle.pm_apply.proofs.citing.citing.Goals as goal

pub fill-requires : goal.fill-requires
fill-requires c = said_hole c.args.work.now c.args.f.now c.len-vars.result c.in_ok-left.left c.in_ok-rule.rule c.in_ok-said.said c.len-vars.ensures c.in_ok-left.ensures c.in_ok-rule.ensures c.in_ok-said.ensures

pub fill-requires-2 : goal.fill-requires-2
fill-requires-2 c =
    new_hole c.args.work.now c.args.f.now c.len-vars.result c.in_ok-left.left c.in_ok-rule.rule c.in_ok-said.said c.fill.result c.args.by c.len-vars.ensures c.in_ok-left.ensures c.in_ok-rule.ensures
    c.in_ok-said.ensures c.fill.ensures.proves c.requires.by

pub returns : goal.returns
returns c =
    citing_done c.args.work.now c.args.f.now c.len-vars.result c.in_ok-left.left c.in_ok-rule.rule c.in_ok-said.said c.fill.result c.fill-2.result c.args.by c.len-vars.ensures c.in_ok-left.ensures
    c.in_ok-rule.ensures c.in_ok-said.ensures c.fill.ensures.proves c.requires.by c.fill-2.ensures.proves
