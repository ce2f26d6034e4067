use Rattle.std.proofs.Common.{arith, refl}
use Rattle.pm_write.proofs.Placing.{item_at}
use Rattle.pm_write.proofs.written.earlier_line.Goals as goal

pub returns-then-same_entail : goal.returns-then-same_entail
returns-then-same_entail c = record { place = c.loop-known.known-index; item = c.known-item.result; there = item_at c.args.earlier.now c.loop-known.known-index c.known-item.result (omega arith) c.known-item.is; entail_is = c.same_entail.ensures.0 c.if-same_entail.true; number_is = refl }
