use Rattle.std.proofs.Common.{◌-◌, ◌<◌, ◌∙◌, ap, length, arith}
use Rattle.pm_logic.specs.declared.formula.Formula.TheViews as view
use Rattle.pm_goal.specs.declared.goal.Hyp.{Hyp}
use Rattle.pm_goal.specs.Left.{of_kind}
use Rattle.pm_goal.proofs.Stars.{star_by, looked_up}
use Rattle.pm_goal.proofs.left.hyps_onto.Goals as goal

pub loop-i-preserved-in-Some : goal.loop-i-preserved-in-Some
loop-i-preserved-in-Some c =
    star_by (λ (h : Hyp). h.formula) (of_kind c.args.kind) c.args.list.now c.loop-i.i c.in-Some.formula.now c.args.end c.loop-i.left c.in_ok-left.left (omega (arith, c.loop-i-test.true)) c.loop-i.invariant c.in-Some.ensures
    (c.in_ok-left.ensures ∙ ap (λ f. view.Sep f c.loop-i.left) c.in_ok-part.ensures)

pub loop-i-preserved : goal.loop-i-preserved
loop-i-preserved c =
    let within : c.loop-i.i - 1 < length c.args.list.now = omega (arith, c.loop-i-test.true, c.loop-i.invariant.within) in
    absurd (looked_up (λ (h : Hyp). h.formula) c.args.list.now (c.loop-i.i - 1) within c.in_default.ensures)
