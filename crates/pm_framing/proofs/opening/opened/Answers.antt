use Rattle.std.proofs.Common.{sym, subst}
use Rattle.pm_frame.specs.Frames.{FrameProof}
use Rattle.pm_framing.proofs.Opened.{opens_meet, opens_vars, opens}
use Rattle.pm_framing.proofs.opening.opened.Goals as goal

pub step-requires : goal.step-requires
step-requires c = subst (λ k. FrameProof k c.args.formula.now c.args.work.now.goal.concl c.args.rest.now c.args.by) (sym c.len-vars.ensures) c.requires.framed

pub compose-requires-clause-vars : goal.compose-requires-clause-vars
compose-requires-clause-vars c =
    opens_vars c.args.work.now c.args.kind c.args.formula.now c.args.left.now c.args.rest.now c.len-vars.result c.args.moved c.in_ok-over.over c.len-vars.ensures c.requires.apart c.in_ok-over.ensures

pub compose-requires-clause-meet : goal.compose-requires-clause-meet
compose-requires-clause-meet c =
    opens_meet c.args.work.now c.args.kind c.args.formula.now c.args.left.now c.args.rest.now c.len-vars.result c.args.moved c.in_ok-over.over c.requires.apart c.in_ok-over.ensures

pub returns : goal.returns
returns c =
    opens c.args.work.now c.args.kind c.args.formula.now c.args.left.now c.args.rest.now c.len-vars.result c.args.moved c.in_ok-over.over c.in_ok-proof.proof c.len-vars.ensures c.requires.apart
    c.in_ok-over.ensures c.in_ok-proof.ensures.proves
