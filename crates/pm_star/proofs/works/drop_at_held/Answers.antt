use Rattle.std.proofs.Common.{rules, ◌∙◌}
use Rattle.pm_star.specs.Stars.{star, without}
use Rattle.pm_star.proofs.Contexts.{of_work}
use Rattle.pm_star.proofs.works.drop_at_held.Goals as goal

pub returns : goal.returns
returns c = of_work c.args.work.now _ _ (λ fs. star (without fs c.args.place)) c.in_ok-proof.proof (c.as_slice.ensures ∙ c.in_ok-parts.ensures) (search rules) c.in_ok-proof.ensures
