use Rattle.std.proofs.Common.{◌-◌, ap}
use Rattle.pm_goal.specs.declared.work.Kind.TheVariants as kind
use Rattle.pm_hand.proofs.Handing.{carried_moves}
use Rattle.pm_heap.proofs.taking.carried.Goals as goal

pub returns : goal.returns
returns c =
    carried_moves c.args.work.now c.args.name.now c.args.place (c.count.result - 1) kind.Spat c.args.formula.now c.in_ok-proof.proof c.requires.at (ap (λ n. n - 1) c.count.ensures)
    c.in_ok-proof.ensures
