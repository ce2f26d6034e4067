use Rattle.std.proofs.Common.{refl}
use Rattle.pm_directives.specs.Groups.{alone_run}
use Rattle.pm_directives.proofs.Begun.{place_kept}
use Rattle.pm_directives.proofs.groups.alone_at.Goals as goal

pub returns-in_ok-kept-in-Current : goal.returns-in_ok-kept-in-Current
returns-in_ok-kept-in-Current c =
    place_kept (alone_run c.args.alone) c.args.place.now c.in-Current.turns c.as_slice.result.now c.in-Current.work c.in_ok-ended-in-Current.ended (record { goals = c.in_ok-kept-in-Current.kept; proof = c.in_ok-ended-in-Current.ended.proof })
    c.in-Current.is c.as_slice.ensures c.in_ok-ended-in-Current.ensures c.in_ok-kept-in-Current.ensures refl
