use Rattle.std.specs.Prelude.{Ok}
use Rattle.pm_print.proofs.Joined.{three}
use Rattle.pm_print.proofs.LineCases.{next_parameter}
use Rattle.pm_print.proofs.lines.add_parameters.Goals as goal

pub loop-i-preserved : goal.loop-i-preserved
loop-i-preserved c = three _ _ _ _ _ _ _ _ (Ok tt) c.loop-i.invariant c.in_ok-separate.ensures c.in_ok-add_binder.ensures (next_parameter _)
