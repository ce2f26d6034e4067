use Rattle.std.proofs.Common.{subst, Some}
use Rattle.pm_frame.specs.Frames.{FrameAnswer}
use Rattle.pm_framing.proofs.Handed.{last_handed}
use Rattle.pm_framing.proofs.Lasting.{held_framed, held_refused}
use Rattle.pm_framing.proofs.in_hand.frame_held.Goals as goal

pub frame-requires : goal.frame-requires
frame-requires c = last_handed c.len-vars.result c.args.work.now c.last-held.result.now c.len-vars.ensures c.requires.handed c.last-held.ensures

pub frame_last-requires-clause-framed : goal.frame_last-requires-clause-framed
frame_last-requires-clause-framed c =
    subst (λ k. FrameAnswer k c.last-held.result.now.formula c.args.work.now.goal.concl (Some c.in-Some.framed)) c.len-vars.ensures
    (subst (FrameAnswer c.len-vars.result c.last-held.result.now.formula c.args.work.now.goal.concl) c.in-Some.is c.in_ok-found.ensures)

pub returns-in-Some : goal.returns-in-Some
returns-in-Some c =
    held_framed c.len-vars.result c.args.work.now c.last-held.result.now c.in-Some.framed c.frame_last.result c.last-held.ensures
    (subst (FrameAnswer c.len-vars.result c.last-held.result.now.formula c.args.work.now.goal.concl) c.in-Some.is c.in_ok-found.ensures) c.frame_last.ensures

pub returns-in-None : goal.returns-in-None
returns-in-None c =
    held_refused c.len-vars.result c.args.work.now c.last-held.result.now c.refuse_plain.result c.last-held.ensures
    (subst (FrameAnswer c.len-vars.result c.last-held.result.now.formula c.args.work.now.goal.concl) c.in-None.is c.in_ok-found.ensures) c.refuse_plain.ensures
