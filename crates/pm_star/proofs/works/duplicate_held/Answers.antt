use Rattle.std.proofs.Common.{rules, ◌∙◌}
use Rattle.pm_star.specs.Stars.{star, duplicated}
use Rattle.pm_star.proofs.Contexts.{of_work, work_repeat, repeat_within}
use Rattle.pm_star.proofs.works.duplicate_held.Goals as goal

pub double-requires-clause-shared : goal.double-requires-clause-shared
double-requires-clause-shared c = work_repeat c.args.work.now _ c.args.place (c.as_slice.ensures ∙ c.in_ok-parts.ensures) c.requires.place

pub double-requires-clause-place : goal.double-requires-clause-place
double-requires-clause-place c = repeat_within c.args.work.now _ c.args.place (c.as_slice.ensures ∙ c.in_ok-parts.ensures) c.requires.place

pub returns : goal.returns
returns c = of_work c.args.work.now _ _ (λ fs. star (duplicated fs c.args.place)) c.in_ok-proof.proof (c.as_slice.ensures ∙ c.in_ok-parts.ensures) (search rules) c.in_ok-proof.ensures
