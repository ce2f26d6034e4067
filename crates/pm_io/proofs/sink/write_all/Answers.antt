use Rattle.pm_io.proofs.Sent.{sent_failed}
use Rattle.pm_io.proofs.sink.write_all.Goals as goal

pub returns-in-Err-clause-err : goal.returns-in-Err-clause-err
returns-in-Err-clause-err g c = sent_failed _ _ _ _ _ c.loop-rest.invariant.1 c.in-Err.ensures.bytes
