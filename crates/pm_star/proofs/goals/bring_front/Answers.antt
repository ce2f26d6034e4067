use Rattle.std.proofs.Common.{rules, ◌∙◌}
use Rattle.pm_star.specs.Stars.{star, in_front}
use Rattle.pm_star.proofs.Contexts.{of_goal}
use Rattle.pm_star.proofs.goals.bring_front.Goals as goal

pub returns : goal.returns
returns c = of_goal c.args.goal.now _ _ (λ fs. star (in_front fs c.args.place)) c.in_ok-proof.proof (c.as_slice.ensures ∙ c.in_ok-parts.ensures) (search rules) c.in_ok-proof.ensures
