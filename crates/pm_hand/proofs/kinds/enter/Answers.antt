use Rattle.pm_goal.specs.declared.work.Kind.TheVariants.{Int}
use Rattle.pm_hand.specs.Changed.{relast}
use Rattle.pm_hand.proofs.Relasts.{alone}
use Rattle.pm_hand.proofs.Kinded.{entry_says, box_given}
use Rattle.pm_hand.proofs.kinds.enter.Goals as goal

pub become_one-requires-clause-says : goal.become_one-requires-clause-says
become_one-requires-clause-says c = entry_says c.args.work.now c.args.held.now c.args.entry c.requires.spat c.requires.entry

pub returns : goal.returns
returns c = box_given c.args.work.now c.args.held.now c.args.entry c.become_one.result c.requires.last c.requires.entry (alone c.args.work.now (relast c.args.work.now Int c.args.entry.formula) c.args.entry.proof c.become_one.result c.become_one.ensures)
