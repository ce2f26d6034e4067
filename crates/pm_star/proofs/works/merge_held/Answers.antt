use Rattle.std.proofs.Common.{rules, ◌+◌, ◌∙◌}
use Rattle.pm_star.specs.Stars.{star}
use Rattle.pm_star.specs.Levels.{right_side}
use Rattle.pm_star.specs.Chains.{joined}
use Rattle.pm_star.proofs.Contexts.{by_work}
use Rattle.pm_star.proofs.Pairs.{of_parts}
use Rattle.pm_star.proofs.works.merge_held.Goals as goal

pub merge-requires-clause-proof : goal.merge-requires-clause-proof
merge-requires-clause-proof c = of_parts c.args.work.now _ _ c.args.place (c.args.place + 1) _ c.args.by (c.as_slice.ensures ∙ c.in_ok-parts.ensures) (search rules) c.requires.proof

pub returns : goal.returns
returns c = by_work c.args.work.now _ _ (λ fs. star (joined fs c.args.place (right_side c.args.by))) c.args.by c.in_ok-proof.proof (c.as_slice.ensures ∙ c.in_ok-parts.ensures) (search rules) c.in_ok-proof.ensures
