use Rattle.pm_hand.proofs.Kinded.{int_stays}
use Rattle.pm_hand.proofs.kinds.to_int.Goals as goal

pub returns-in-Int : goal.returns-in-Int
returns-in-Int c = int_stays c.args.work.now c.last-held.result.now c.as_it_is.result c.last-held.ensures c.in-Int.is c.as_it_is.ensures
