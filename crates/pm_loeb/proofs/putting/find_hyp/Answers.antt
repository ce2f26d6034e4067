use Rattle.std.proofs.Common.{sym}
use Rattle.pm_loeb.proofs.Puttings.{none_found}
use Rattle.pm_loeb.proofs.putting.find_hyp.Goals as goal

pub returns : goal.returns
returns c = none_found c.args.name.now c.args.goal.now (sym c.in_default.ensures.place) (sym c.in_default-place.ensures.place)
