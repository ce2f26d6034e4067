use Rattle.pm_table.specs.Occurrences.{shifted_pure}
use Rattle.pm_intro.proofs.Shifting.{shifted_as, pure_same}
use Rattle.pm_intro.proofs.variables.shifted.Goals as goal

pub unreachable-requires : goal.unreachable-requires
unreachable-requires c = c.in_default.not-Pure (shifted_pure c.args.pure.now) (shifted_as c.args.pure.now c.in_ok-own.own c.in_ok-moved.moved c.in_ok-own.ensures c.in_ok-moved.ensures)

pub returns : goal.returns
returns c = pure_same (shifted_pure c.args.pure.now) c.in-Pure.p c.in_ok-pure-in-Pure.pure c.in_ok-moved.moved (shifted_as c.args.pure.now c.in_ok-own.own c.in_ok-moved.moved c.in_ok-own.ensures c.in_ok-moved.ensures) c.in-Pure.is c.in_ok-pure-in-Pure.ensures
