use Rattle.pm_hand.proofs.Kinded.{spat_stays}
use Rattle.pm_hand.proofs.kinds.to_spat.Goals as goal

pub returns-in-Spat : goal.returns-in-Spat
returns-in-Spat c = spat_stays c.args.work.now c.last-held.result.now c.as_it_is.result c.last-held.ensures c.in-Spat.is c.as_it_is.ensures
