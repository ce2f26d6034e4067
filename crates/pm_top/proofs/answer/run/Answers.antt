use Rattle.std.proofs.Common.{arith}
use Rattle.pm_top.proofs.RunAnswers.{ran_accepted, ran_refused, ran_unreadable}
use Rattle.pm_top.proofs.answer.run.Goals as goal

pub returns-in-Accepted-2 : goal.returns-in-Accepted-2
returns-in-Accepted-2 c = ran_accepted c.args.bytes.now _ _ c.in_ok-text.ensures c.in-Accepted.is (omega (arith, c.len.ensures, c.if-len-gt-MOST.false))

pub returns-in_ok-refusal-in-Refused : goal.returns-in_ok-refusal-in-Refused
returns-in_ok-refusal-in-Refused c = ran_refused c.args.bytes.now _ _ _ _ _ c.in_ok-text.ensures c.in-Refused.is c.in_ok-refusal-in-Refused.ensures

pub returns-in_ok-unreadable-in-Unreadable : goal.returns-in_ok-unreadable-in-Unreadable
returns-in_ok-unreadable-in-Unreadable c = ran_unreadable c.args.bytes.now _ _ _ c.in_ok-text.ensures c.in-Unreadable.is c.in_ok-unreadable-in-Unreadable.ensures
