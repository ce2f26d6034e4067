use Rattle.std.proofs.Common.{sym}
use Rattle.pm_hand.proofs.Lookups.{none_looked}
use Rattle.pm_hand.proofs.looking.look_up.Goals as goal

pub returns : goal.returns
returns c = none_looked c.args.goal.now c.args.name.now c.requires.apart (sym c.in_default.ensures.place) (sym c.in_default-place.ensures.place) (sym c.in_default-place-2.ensures.place)
