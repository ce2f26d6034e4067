use Rattle.std.proofs.Common.{subst}
use Rattle.pm_loeb.specs.Spots.{IsSpot}
use Rattle.pm_loeb.proofs.Calling.{spot_foldable}
use Rattle.pm_loeb.proofs.unfolding.unfold_named.Goals as goal

pub unfolded-requires-clause-scoped : goal.unfolded-requires-clause-scoped
unfolded-requires-clause-scoped c =
    spot_foldable c.args.preds.now c.args.work.now c.args.name.now c.in-Some.spot (subst (IsSpot c.args.work.now.goal c.args.name.now) c.in-Some.is c.in_ok-found.ensures) c.len-vars.result c.len-vars.ensures c.requires.scoped
