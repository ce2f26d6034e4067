use Rattle.pm_heap.proofs.Updated.{second_gap, first_gap, runs}
use Rattle.pm_heap.proofs.running.run_beside.Goals as goal

pub fill-step-requires : goal.fill-step-requires
fill-step-requires c = second_gap c.args.vars c.args.a.now c.args.b.now c.args.x.now c.args.q.now c.in_ok-step.step c.args.update c.args.follows c.in_ok-step.ensures c.requires.follows

pub fill-requires : goal.fill-requires
fill-requires c = first_gap c.args.vars c.args.a.now c.args.b.now c.args.x.now c.args.q.now c.in_ok-step.step c.args.update c.args.follows c.fill-step.result c.in_ok-step.ensures c.requires.update c.requires.follows c.fill-step.ensures.tree

pub returns : goal.returns
returns c =
    runs c.args.vars c.args.a.now c.args.b.now c.args.x.now c.args.q.now c.in_ok-step.step c.args.update c.args.follows c.fill-step.result c.fill.result c.in_ok-step.ensures c.requires.update c.requires.follows
    c.fill-step.ensures.tree c.fill.ensures.tree c.fill-step.ensures.proves c.fill.ensures.proves
