use Rattle.std.proofs.Common.{◌<◌, refl, ap, ◌∙◌, ◌++◌, [], ◌∷◌, length, arith}
use Rattle.pm_goal.specs.declared.goal.Hyp.{Hyp}
use Rattle.pm_star.proofs.Pushes.{pushed_by, looked_up}
use Rattle.pm_action.proofs.collecting.push_hyps.Goals as goal

pub loop-next-preserved-in_ok-push : goal.loop-next-preserved-in_ok-push
loop-next-preserved-in_ok-push c =
    pushed_by (λ (x : Hyp). x.formula) (λ f. f) c.args.list.now c.loop-next.next _ c.in-Some.formula.now c.args.out.now c.loop-next.out c.push.new.self refl c.loop-next.invariant c.in-Some.ensures
    (c.in_ok-push.ensures.ok ∙ ap (λ f. c.loop-next.out ++ f ∷ []) c.in_ok-copy.ensures)

pub loop-next-preserved : goal.loop-next-preserved
loop-next-preserved c =
    let within : c.loop-next.next < length c.args.list.now = omega (arith, c.loop-next-test.true, c.len-len.ensures) in
    absurd (looked_up (λ (x : Hyp). x.formula) c.args.list.now c.loop-next.next within c.in_default.ensures)
