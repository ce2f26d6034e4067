use Rattle.std.proofs.Common.{length, sym, ◌∙◌}
use Rattle.pm_logic.specs.declared.formula.Formula.TheViews as view
use Rattle.pm_goal.specs.declared.refusal.Row.TheVariants.{NameInUse}
use Rattle.pm_goal.specs.Left.{of_kind}
use Rattle.pm_star.specs.Levels.{right_side}
use Rattle.pm_table.specs.Destructs as table
use Rattle.pm_table.specs.Limits.{all_nodes, work_formulas}
use Rattle.pm_intro.specs.Hands.{hand_at}
use Rattle.pm_intro.proofs.Answered.{refuses}
use Rattle.pm_intro.proofs.Generals.{findable}
use Rattle.pm_intro.proofs.InFront.{by_right, right_of}
use Rattle.pm_intro.proofs.Ways.{body_used, body_free}
use Rattle.pm_intro.proofs.BodyHeld.{body_meet, body_answer}
use Rattle.pm_intro.proofs.witness.body_held.Goals as goal

pub is_free-requires : goal.is_free-requires
is_free-requires c = findable c.args.work.now c.requires.handed

pub returns-then-not-is_free : goal.returns-then-not-is_free
returns-then-not-is_free c =
    let w = c.args.work.now in
    let h = c.args.held.now in
    refuses (all_nodes (work_formulas w)) w (table.body_held w (hand_at w h) c.args.name.now c.args.entry.formula) NameInUse c.args.name.now c.refuse.result
    (body_used w h c.args.name.now c.args.entry.formula (sym c.is_free.ensures ∙ c.if-not-is_free.true)) c.refuse.ensures

pub front-requires-clause-proof : goal.front-requires-clause-proof
front-requires-clause-proof c =
    let h = c.args.held.now in
    by_right (length c.args.work.now.goal.vars) (of_kind h.kind h.formula) (view.Ex (of_kind h.kind c.args.entry.formula)) c.args.entry.proof c.requires.says

pub compose-requires-clause-meet : goal.compose-requires-clause-meet
compose-requires-clause-meet c =
    let w = c.args.work.now in
    let h = c.args.held.now in
    body_meet w c.in_ok-new.new (of_kind h.kind c.args.entry.formula) (right_side c.args.entry.proof) c.in_ok-front.front c.in_ok-opened.opened
    (right_of (length w.goal.vars) (of_kind h.kind h.formula) (view.Ex (of_kind h.kind c.args.entry.formula)) c.args.entry.proof c.requires.says) c.in_ok-front.ensures c.in_ok-opened.ensures

pub returns : goal.returns
returns c =
    let w = c.args.work.now in
    let h = c.args.held.now in
    body_answer w h c.requires.last c.args.name.now c.args.entry.formula (right_side c.args.entry.proof) c.in_ok-new.new c.in_ok-front.front c.in_ok-opened.opened c.in_ok-proof.proof (table.body_held w (hand_at w h) c.args.name.now c.args.entry.formula) c.finish_open.result c.in_ok-new.ensures
    (body_free w h c.args.name.now c.args.entry.formula (sym c.is_free.ensures ∙ c.if-not-is_free.false))
    (right_of (length w.goal.vars) (of_kind h.kind h.formula) (view.Ex (of_kind h.kind c.args.entry.formula)) c.args.entry.proof c.requires.says) c.in_ok-front.ensures c.in_ok-opened.ensures c.in_ok-proof.ensures.proves c.finish_open.ensures
