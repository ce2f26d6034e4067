use Rattle.std.proofs.Common.{length}
use Rattle.pm_logic.specs.declared.formula.Formula.TheViews as view
use Rattle.pm_goal.specs.Left.{of_kind}
use Rattle.pm_star.specs.Levels.{right_side}
use Rattle.pm_intro.proofs.InFront.{by_right, right_of}
use Rattle.pm_intro.proofs.Alternatives.{alternatives_answer, alternatives_meet}
use Rattle.pm_intro.proofs.cases.alternatives.Goals as goal

pub front-requires-clause-proof : goal.front-requires-clause-proof
front-requires-clause-proof c =
    let h = c.args.held.now in
    by_right (length c.args.work.now.goal.vars) (of_kind h.kind h.formula) (view.Or (of_kind h.kind c.args.entry.first) (of_kind h.kind c.args.entry.second)) c.args.entry.proof c.requires.says

pub compose-requires-clause-meet : goal.compose-requires-clause-meet
compose-requires-clause-meet c =
    let h = c.args.held.now in
    let w = c.args.work.now in
    alternatives_meet w (of_kind h.kind c.args.entry.first) (of_kind h.kind c.args.entry.second) (right_side c.args.entry.proof) c.in_ok-left.left c.in_ok-right.right c.in_ok-front.front c.in_ok-split.split
    (right_of (length w.goal.vars) (of_kind h.kind h.formula) (view.Or (of_kind h.kind c.args.entry.first) (of_kind h.kind c.args.entry.second)) c.args.entry.proof c.requires.says)
    c.in_ok-front.ensures c.in_ok-split.ensures

pub returns : goal.returns
returns c =
    let h = c.args.held.now in
    let w = c.args.work.now in
    alternatives_answer w h c.requires.last c.args.entry.first c.args.entry.second (right_side c.args.entry.proof) c.in_ok-left.left c.in_ok-right.right c.in_ok-front.front c.in_ok-split.split c.in_ok-proof.proof c.finish_cases.result c.in_ok-left.ensures c.in_ok-right.ensures
    (right_of (length w.goal.vars) (of_kind h.kind h.formula) (view.Or (of_kind h.kind c.args.entry.first) (of_kind h.kind c.args.entry.second)) c.args.entry.proof c.requires.says)
    c.in_ok-front.ensures c.in_ok-split.ensures c.in_ok-proof.ensures.proves c.finish_cases.ensures
