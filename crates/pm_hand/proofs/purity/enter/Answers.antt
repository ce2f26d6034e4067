use Rattle.pm_hand.proofs.Known.{pure_given}
use Rattle.pm_hand.proofs.purity.enter.Goals as goal

pub returns : goal.returns
returns c =
    pure_given c.args.work.now c.args.held.now c.args.name.now c.args.entry c.make_known.result c.requires.last c.requires.entry c.requires.free c.make_known.ensures
