use Rattle.std.proofs.Common.{rules, insert, ◌∙◌}
use Rattle.pm_star.specs.Stars.{star}
use Rattle.pm_star.proofs.Contexts.{beside_work}
use Rattle.pm_star.proofs.works.sink_held.Goals as goal

pub returns : goal.returns
returns c = beside_work c.args.work.now _ _ c.args.a.now (λ fs. star (insert fs c.args.place c.args.a.now)) c.in_ok-proof.proof (c.as_slice.ensures ∙ c.in_ok-parts.ensures) (search rules) c.in_ok-proof.ensures
