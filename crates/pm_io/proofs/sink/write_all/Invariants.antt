use Rattle.std.proofs.Common.{◌≤◌, length}
use Rattle.pm_io.proofs.Sent.{Sent}
use Rattle.pm_io.proofs.sink.write_all.Given as goal

abbrev pub invariant-loop-rest : goal.invariant-loop-rest
invariant-loop-rest g l =
    (g.K.Sink.faults l.fn.sink ≤ g.K.Sink.faults l.sink)
    × Sent (g.K.Sink.written l.fn.sink) (g.K.Sink.written l.sink) l.piece l.rest

abbrev pub decreases-loop-rest : goal.decreases-loop-rest
decreases-loop-rest g l = length l.rest
