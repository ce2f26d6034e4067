use Rattle.std.proofs.Common.{length}
use Rattle.pm_check.proofs.Lines.{Progress}
use Rattle.pm_check.proofs.judging.judge_lines.Given as goal

abbrev pub invariant-loop-rest : goal.invariant-loop-rest
invariant-loop-rest l = Progress l.text l.fn.preds l.kept l.rest

abbrev pub decreases-loop-rest : goal.decreases-loop-rest
decreases-loop-rest l = length l.rest
