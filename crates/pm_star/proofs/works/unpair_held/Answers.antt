use Rattle.std.proofs.Common.{rules, ◌∙◌}
use Rattle.pm_star.specs.Stars.{star}
use Rattle.pm_star.specs.Chains.{paired}
use Rattle.pm_star.proofs.Contexts.{by_work}
use Rattle.pm_star.proofs.Pairs.{of_part}
use Rattle.pm_star.proofs.works.unpair_held.Goals as goal

pub unpair-requires-clause-proof : goal.unpair-requires-clause-proof
unpair-requires-clause-proof c = of_part c.args.work.now _ _ c.args.place _ c.args.by (c.as_slice.ensures ∙ c.in_ok-parts.ensures) (search rules) c.requires.proof

pub returns : goal.returns
returns c = by_work c.args.work.now _ _ (λ fs. star (paired fs c.args.place c.args.first.now c.args.second.now)) c.args.by c.in_ok-proof.proof (c.as_slice.ensures ∙ c.in_ok-parts.ensures) (search rules) c.in_ok-proof.ensures
