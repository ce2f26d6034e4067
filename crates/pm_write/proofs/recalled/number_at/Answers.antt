use Rattle.std.proofs.Common.{ap, refl, Some, ◌∙◌}
use Rattle.pm_write.proofs.Recalling.{item_recalled}
use Rattle.pm_write.proofs.recalled.number_at.Goals as goal

pub returns-then-same_entail : goal.returns-then-same_entail
returns-then-same_entail c = record { place = c.args.at; item = c.in_ok-known.known; there = item_recalled c.args.places.now c.args.at c.index-places-at.result c.requires c.index-places-at.is ∙ ap (λ o. Some o) (c.in_ok-known.was); entail_is = c.same_entail.ensures.0 c.if-same_entail.true; number_is = refl }
