use Rattle.std.proofs.Common.{◌<◌, refl, ap, ◌∙◌, ◌++◌, [], ◌∷◌, length, arith}
use Rattle.pm_goal.specs.declared.goal.Fact.{Fact}
use Rattle.pm_star.proofs.Pushes.{looked_up}
use Rattle.pm_directives.proofs.Named.{named_more}
use Rattle.pm_directives.proofs.groups.push_fact_names.Goals as goal

pub loop-next-preserved-in_ok-push : goal.loop-next-preserved-in_ok-push
loop-next-preserved-in_ok-push c =
    named_more (λ (f : Fact). f.name) c.args.facts.now c.loop-next.next _ c.in-Some.name.now c.args.out.now c.loop-next.out c.push.new.self refl c.loop-next.invariant c.in-Some.ensures
    (c.in_ok-push.ensures.ok ∙ ap (λ x. c.loop-next.out ++ x ∷ []) c.in_ok-copy_name.ensures)

pub loop-next-preserved : goal.loop-next-preserved
loop-next-preserved c =
    let within : c.loop-next.next < length c.args.facts.now = omega (arith, c.loop-next-test.true, c.len-len.ensures) in
    absurd (looked_up (λ (f : Fact). f.name) c.args.facts.now c.loop-next.next within c.in_default.ensures)
