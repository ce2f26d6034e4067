use Rattle.std.proofs.Common.{◌-◌, ap}
use Rattle.pm_hand.proofs.Handing.{carried_moves}
use Rattle.pm_hand.proofs.taking.carried.Goals as goal

pub returns : goal.returns
returns c =
    carried_moves c.args.work.now c.args.name.now c.args.place (c.count.result - 1) c.args.kind c.args.formula.now c.in_ok-proof.proof c.requires.at (ap (λ n. n - 1) c.count.ensures)
    c.in_ok-proof.ensures
