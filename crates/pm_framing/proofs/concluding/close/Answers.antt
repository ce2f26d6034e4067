use Rattle.pm_framing.proofs.Ended.{close_hole, closes}
use Rattle.pm_framing.proofs.concluding.close.Goals as goal

pub fill-proof-requires : goal.fill-proof-requires
fill-proof-requires c = close_hole c.args.work.now c.args.left.now c.len-vars.result c.args.opened c.in_ok-by.by c.len-vars.ensures c.requires.opened c.in_ok-by.ensures

pub returns : goal.returns
returns c =
    closes c.args.work.now c.args.left.now c.len-vars.result c.args.opened c.in_ok-by.by c.fill-proof.result c.finish_closed.result c.requires.left c.len-vars.ensures c.requires.opened
    c.in_ok-by.ensures c.fill-proof.ensures.proves c.finish_closed.ensures
