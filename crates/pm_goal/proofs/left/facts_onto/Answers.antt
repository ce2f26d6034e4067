use Rattle.std.proofs.Common.{◌-◌, ◌<◌, ◌∙◌, ap, length, arith}
use Rattle.pm_logic.specs.declared.formula.Formula.TheVariants.{Pure as Assert}
use Rattle.pm_logic.specs.declared.formula.Formula.TheViews as view
use Rattle.pm_logic.specs.declared.formula.Pure.{Pure}
use Rattle.pm_goal.specs.declared.goal.Fact.{Fact}
use Rattle.pm_goal.proofs.Stars.{star_by, looked_up}
use Rattle.pm_goal.proofs.left.facts_onto.Goals as goal

pub loop-i-preserved-in-Some : goal.loop-i-preserved-in-Some
loop-i-preserved-in-Some c =
    star_by (λ (f : Fact). f.pure) (λ (a : Pure). Assert a) c.args.list.now c.loop-i.i c.in-Some.pure.now c.args.end c.loop-i.left c.in_ok-left.left (omega (arith, c.loop-i-test.true)) c.loop-i.invariant c.in-Some.ensures
    (c.in_ok-left.ensures ∙ ap (λ (a : Pure). view.Sep (Assert a) c.loop-i.left) c.in_ok-copy_pure.ensures)

pub loop-i-preserved : goal.loop-i-preserved
loop-i-preserved c =
    let within : c.loop-i.i - 1 < length c.args.list.now = omega (arith, c.loop-i-test.true, c.loop-i.invariant.within) in
    absurd (looked_up (λ (f : Fact). f.pure) c.args.list.now (c.loop-i.i - 1) within c.in_default.ensures)
