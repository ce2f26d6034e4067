use Rattle.std.proofs.Common.{rules, ◌∙◌}
use Rattle.pm_star.specs.Stars.{star}
use Rattle.pm_star.specs.Chains.{moved}
use Rattle.pm_star.proofs.Contexts.{of_work}
use Rattle.pm_star.proofs.works.carry_held.Goals as goal

pub returns : goal.returns
returns c = of_work c.args.work.now _ _ (λ fs. star (moved fs c.args.from c.args.to)) c.in_ok-proof.proof (c.as_slice.ensures ∙ c.in_ok-parts.ensures) (search rules) c.in_ok-proof.ensures
