use Rattle.std.proofs.Common.{length}
use Rattle.pm_run.specs.Keeping.{IsKept}
use Rattle.pm_run.specs.Looping.{AreShort, LeadsTo}
use Rattle.pm_run.proofs.script.do_spans.Given as goal

abbrev pub invariant-spans : goal.invariant-spans
invariant-spans l = IsKept l.running × AreShort l.rest × LeadsTo l.initial.running l.initial.number l.initial.rest l.running l.number l.rest

abbrev pub decreases-spans : goal.decreases-spans
decreases-spans l = length l.rest
