use Rattle.std.proofs.Common.{subst}
use Rattle.pm_hand.specs.Looking.{HypNamed}
use Rattle.pm_hand.proofs.Takes.{spat_lent, int_lent}
use Rattle.pm_hand.proofs.taking.lend_hyp.Goals as goal

pub returns-in-Spat : goal.returns-in-Spat
returns-in-Spat c =
    spat_lent c.args.work.now c.args.name.now c.args.formula c.take_hyp.result (subst (λ k. HypNamed c.args.work.now.goal c.args.name.now k c.args.formula) c.in-Spat.is c.requires.at.named) c.take_hyp.ensures

pub returns-in-Int : goal.returns-in-Int
returns-in-Int c =
    int_lent c.args.work.now c.args.name.now c.args.formula c.lend_int.result (subst (λ k. HypNamed c.args.work.now.goal c.args.name.now k c.args.formula) c.in-Int.is c.requires.at.named) c.lend_int.ensures
