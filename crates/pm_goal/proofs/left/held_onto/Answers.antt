use Rattle.std.proofs.Common.{◌∙◌, ap, arith}
use Rattle.pm_logic.specs.declared.formula.Formula.TheViews as view
use Rattle.pm_goal.specs.declared.work.Held.{Held}
use Rattle.pm_goal.specs.Left.{of_kind}
use Rattle.pm_goal.proofs.Stars.{star_less}
use Rattle.pm_goal.proofs.left.held_onto.Goals as goal

pub loop-i-preserved : goal.loop-i-preserved
loop-i-preserved c =
    star_less (λ (h : Held). of_kind h.kind h.formula) c.args.list.now c.loop-i.i c.index-list-i.result c.args.end c.loop-i.left c.in_ok-left.left (omega arith) c.loop-i.invariant c.index-list-i.is (c.in_ok-left.ensures ∙ ap (λ f. view.Sep f c.loop-i.left) c.in_ok-formula.ensures)
