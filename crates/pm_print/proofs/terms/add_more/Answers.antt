use Rattle.std.specs.Prelude.{Ok}
use Rattle.pm_print.proofs.Joined.{three}
use Rattle.pm_print.proofs.TermCases.{next_more}
use Rattle.pm_print.proofs.terms.add_more.Goals as goal

pub loop-t-preserved : goal.loop-t-preserved
loop-t-preserved c =
    three _ _ _ _ _ _ _ _ (Ok tt) c.loop-t.invariant c.in_ok-add_sign.ensures c.in_ok-add_term.ensures (next_more _ _ _ _ c.loop-t-test.true c.t-item.is)
