use Rattle.std.proofs.Common.{subst}
use Rattle.pm_frame.specs.Frames.{FrameAnswer}
use Rattle.pm_framing.proofs.Found.{source_handed}
use Rattle.pm_framing.proofs.naming.left_by.Goals as goal

pub frame-requires : goal.frame-requires
frame-requires c = source_handed c.len-vars.result c.args.work.now c.args.name.now c.args.source.now c.len-vars.ensures c.requires.handed c.requires.source

pub returns : goal.returns
returns c = subst (λ k. FrameAnswer k c.args.source.now.formula c.args.work.now.goal.concl c.in_ok-found.found) c.len-vars.ensures c.in_ok-found.ensures
