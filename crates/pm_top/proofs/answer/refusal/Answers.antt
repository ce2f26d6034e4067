use Rattle.std.proofs.Common.{rules}
use Rattle.pm_top.proofs.RunAnswers.{spelled}
use Rattle.pm_top.proofs.answer.refusal.Goals as goal

pub returns : goal.returns
returns c = spelled c.args.number c.args.offset c.args.refusal.now c.in_ok-line.line c.extend.new.self c.extend-2.new.self c.extend-3.new.self (search rules) (search rules) (search rules) (search rules)
