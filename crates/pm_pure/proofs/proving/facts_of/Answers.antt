use Rattle.std.proofs.Common.{◌<◌, refl, ap, ◌∙◌, ◌++◌, [], ◌∷◌, length, arith}
use Rattle.pm_logic.specs.declared.formula.Formula.TheVariants.{Pure as Assert}
use Rattle.pm_goal.specs.declared.goal.Fact.{Fact}
use Rattle.pm_star.proofs.Pushes.{pushed_by, looked_up}
use Rattle.pm_pure.proofs.proving.facts_of.Goals as goal

pub loop-next-preserved-in_ok-push : goal.loop-next-preserved-in_ok-push
loop-next-preserved-in_ok-push c =
    pushed_by (λ (x : Fact). x.pure) Assert c.args.list.now c.loop-next.next _ c.in-Some.pure.now [] c.loop-next.out c.push.new.self refl c.loop-next.invariant c.in-Some.ensures
    (c.in_ok-push.ensures.ok ∙ ap (λ f. c.loop-next.out ++ f ∷ []) (ap Assert c.in_ok-copy_pure.ensures))

pub loop-next-preserved : goal.loop-next-preserved
loop-next-preserved c =
    let within : c.loop-next.next < length c.args.list.now = omega (arith, c.loop-next-test.true, c.len-len.ensures) in
    absurd (looked_up (λ (x : Fact). x.pure) c.args.list.now c.loop-next.next within c.in_default.ensures)
