use Rattle.pm_closing.proofs.Taken.{front_first, part_given}
use Rattle.pm_closing.proofs.taking.part.Goals as goal

pub first-requires : goal.first-requires
first-requires c = front_first c.args.work.now c.args.place c.requires.within c.in_ok-front.front c.in_ok-front.ensures

pub returns : goal.returns
returns c = part_given c.args.work.now c.args.place c.requires.within c.in_ok-front.front c.in_ok-proof.proof c.in_ok-front.ensures c.in_ok-proof.ensures
