use Rattle.pm_apply.proofs.Onward.{wand_hole, behind_hole, more_done}
use Rattle.pm_apply.proofs.reaching.by_more.Goals as goal

pub fill-requires : goal.fill-requires
fill-requires c = wand_hole c.args.vars c.args.whole.now c.args.shared.now c.args.r.now c.args.concl.now c.args.entry c.in_ok-step.step c.requires.entry c.in_ok-step.ensures

pub fill-proof-requires : goal.fill-proof-requires
fill-proof-requires c =
    behind_hole c.args.vars c.args.whole.now c.args.shared.now c.args.r.now c.args.concl.now c.args.entry c.args.inner c.in_ok-step.step c.fill.result c.requires.entry c.requires.inner c.in_ok-step.ensures
    c.fill.ensures.proves

pub returns : goal.returns
returns c =
    more_done c.args.vars c.args.whole.now c.args.shared.now c.args.r.now c.args.concl.now c.args.entry c.args.inner c.in_ok-step.step c.fill.result c.fill-proof.result c.push.new.self c.requires.entry
    c.in_ok-step.ensures c.fill.ensures.proves c.fill-proof.ensures.proves c.in_ok-push.ensures.ok
