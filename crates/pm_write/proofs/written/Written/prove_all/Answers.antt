use Rattle.std.proofs.Common.{arith, refl}
use Rattle.pm_write.proofs.Stating.{so_far_pushed, so_far_whole}
use Rattle.pm_write.proofs.written.Written.prove_all.Goals as goal

pub loop-named-preserved : goal.loop-named-preserved
loop-named-preserved c = so_far_pushed c.args.self.now c.loop-named.self c.prove.new.self c.state.new.self c.args.proofs.now c.loop-named.named-index c.loop-named.earlier.items _ _ c.named-item.result (record { entail = c.conclusion-entail.result; number = c.in_ok-number.number }) c.in_ok-number.number (omega arith) c.named-item.is c.loop-named.invariant c.as_slice.ensures.value c.in_ok-number.ensures c.in_ok-state.ensures c.conclusion-entail.ensures refl c.in_ok-push.ensures.items

pub returns : goal.returns
returns c = so_far_whole c.args.self.now c.loop-named.self c.args.proofs.now c.loop-named.named-index c.loop-named.earlier.items (omega arith) c.loop-named.invariant
