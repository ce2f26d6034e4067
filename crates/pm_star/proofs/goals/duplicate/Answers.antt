use Rattle.std.proofs.Common.{rules, refl, ◌∙◌}
use Rattle.pm_star.specs.Stars.{star, duplicated}
use Rattle.pm_star.proofs.Contexts.{of_goal, goal_shared}
use Rattle.pm_star.proofs.goals.duplicate.Goals as goal

pub double-requires-clause-shared : goal.double-requires-clause-shared
double-requires-clause-shared c = goal_shared c.args.goal.now _ _ c.args.place (c.as_slice.ensures ∙ c.in_ok-parts.ensures) refl c.requires.place

pub returns : goal.returns
returns c = of_goal c.args.goal.now _ _ (λ fs. star (duplicated fs c.args.place)) c.in_ok-proof.proof (c.as_slice.ensures ∙ c.in_ok-parts.ensures) (search rules) c.in_ok-proof.ensures
