use Rattle.pm_goal.specs.declared.work.Kind.TheVariants.{Spat}
use Rattle.pm_hand.specs.Changed.{relast}
use Rattle.pm_hand.proofs.Relasts.{alone}
use Rattle.pm_hand.proofs.Kinded.{unbox_given}
use Rattle.pm_hand.proofs.kinds.unbox.Goals as goal

pub returns : goal.returns
returns c =
    unbox_given c.args.work.now c.args.held.now c.len-vars.result c.in_ok-formula.formula c.in_ok-by.by c.become_one.result c.requires.last c.len-vars.ensures c.in_ok-formula.ensures
    c.in_ok-by.ensures (alone c.args.work.now (relast c.args.work.now Spat c.in_ok-formula.formula) c.in_ok-by.by c.become_one.result c.become_one.ensures)
