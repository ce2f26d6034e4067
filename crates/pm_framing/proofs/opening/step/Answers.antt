use Rattle.pm_framing.proofs.Opened.{step_hole, step_done}
use Rattle.pm_framing.proofs.opening.step.Goals as goal

pub fill-requires : goal.fill-requires
fill-requires c = step_hole c.args.vars c.args.kind c.args.a.now c.args.x.now c.args.y.now c.args.c.now c.args.by c.in_ok-rule.rule c.in_ok-rule.ensures c.requires

pub returns : goal.returns
returns c = step_done c.args.vars c.args.kind c.args.a.now c.args.x.now c.args.y.now c.args.c.now c.args.by c.in_ok-rule.rule c.fill.result c.in_ok-rule.ensures c.requires c.fill.ensures.proves
