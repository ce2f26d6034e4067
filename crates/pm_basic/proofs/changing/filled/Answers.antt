use Rattle.pm_logic.specs.Substitution.{entries, in_pure}
use Rattle.pm_basic.proofs.Changed.{asserted, fact_same}
use Rattle.pm_basic.proofs.changing.filled.Goals as goal

pub unreachable-requires : goal.unreachable-requires
unreachable-requires c = c.in_default.not-Pure (in_pure (entries c.args.sigma.now) c.args.pure.now) (asserted c.args.sigma.now c.args.pure.now c.in_ok-own.own c.in_ok-changed.changed c.in_ok-own.ensures c.in_ok-changed.ensures)

pub returns : goal.returns
returns c = fact_same (in_pure (entries c.args.sigma.now) c.args.pure.now) c.in-Pure.p c.in_ok-pure-in-Pure.pure c.in_ok-changed.changed (asserted c.args.sigma.now c.args.pure.now c.in_ok-own.own c.in_ok-changed.changed c.in_ok-own.ensures c.in_ok-changed.ensures) c.in-Pure.is c.in_ok-pure-in-Pure.ensures
