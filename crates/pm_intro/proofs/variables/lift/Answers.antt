use Rattle.std.proofs.Common.{arith}
use Rattle.pm_table.proofs.Counting.{times_in_goal}
use Rattle.pm_intro.proofs.variables.lift.Goals as goal

pub each_fact-requires-clause-apart : goal.each_fact-requires-clause-apart
each_fact-requires-clause-apart c name = omega (arith, times_in_goal name c.args.work.now.goal, c.requires.apart name)

pub each_hyp-requires-clause-apart : goal.each_hyp-requires-clause-apart
each_hyp-requires-clause-apart c name = omega (arith, times_in_goal name c.args.work.now.goal, c.requires.apart name)

pub each_hyp-requires-2-clause-apart : goal.each_hyp-requires-2-clause-apart
each_hyp-requires-2-clause-apart c name = omega (arith, times_in_goal name c.args.work.now.goal, c.requires.apart name)
