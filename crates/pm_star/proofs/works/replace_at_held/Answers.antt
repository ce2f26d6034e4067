use Rattle.std.proofs.Common.{rules, set, ◌∙◌}
use Rattle.pm_star.specs.Stars.{star}
use Rattle.pm_star.specs.Levels.{right_side}
use Rattle.pm_star.proofs.Contexts.{by_work}
use Rattle.pm_star.proofs.works.replace_at_held.Goals as goal

pub returns : goal.returns
returns c = by_work c.args.work.now _ _ (λ fs. star (set fs c.args.place (right_side c.args.by))) c.args.by c.in_ok-proof.proof (c.as_slice.ensures ∙ c.in_ok-parts.ensures) (search rules) c.in_ok-proof.ensures
