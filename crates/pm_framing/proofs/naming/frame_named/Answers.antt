use Rattle.std.proofs.Common.{length, subst, Some}
use Rattle.pm_frame.specs.Frames.{FrameAnswer}
use Rattle.pm_framing.specs.Sources.{Finds}
use Rattle.pm_framing.proofs.Named.{none_named, named_framed, named_refused}
use Rattle.pm_framing.proofs.naming.frame_named.Goals as goal

pub left_by-requires-clause-source : goal.left_by-requires-clause-source
left_by-requires-clause-source c = subst (Finds c.args.work.now.goal c.args.name.now) c.in-Some.is c.in_ok-found.ensures

pub frame_source-requires-clause-source : goal.frame_source-requires-clause-source
frame_source-requires-clause-source c = subst (Finds c.args.work.now.goal c.args.name.now) c.in-Some.is c.in_ok-found.ensures

pub frame_source-requires-clause-framed : goal.frame_source-requires-clause-framed
frame_source-requires-clause-framed c = subst (FrameAnswer (length c.args.work.now.goal.vars) c.in-Some.source.formula c.args.work.now.goal.concl) c.in-Some-left.is c.in_ok-left.ensures

pub returns-in-Some-left : goal.returns-in-Some-left
returns-in-Some-left c =
    named_framed c.args.work.now c.args.name.now c.in-Some.source (subst (Finds c.args.work.now.goal c.args.name.now) c.in-Some.is c.in_ok-found.ensures) (length c.args.work.now.goal.vars) c.in-Some-left.framed c.frame_source.result
    (subst (FrameAnswer (length c.args.work.now.goal.vars) c.in-Some.source.formula c.args.work.now.goal.concl) c.in-Some-left.is c.in_ok-left.ensures) c.frame_source.ensures

pub returns-in_default : goal.returns-in_default
returns-in_default c = none_named c.args.work.now c.args.name.now c.refuse.result (subst (Finds c.args.work.now.goal c.args.name.now) c.in_default.is c.in_ok-found.ensures) c.refuse.ensures

pub returns : goal.returns
returns c =
    named_refused c.args.work.now c.args.name.now c.in-Some.source (subst (Finds c.args.work.now.goal c.args.name.now) c.in-Some.is c.in_ok-found.ensures) (length c.args.work.now.goal.vars) c.refuse-in-None.result
    (subst (FrameAnswer (length c.args.work.now.goal.vars) c.in-Some.source.formula c.args.work.now.goal.concl) c.in-None.is c.in_ok-left.ensures) c.refuse-in-None.ensures
