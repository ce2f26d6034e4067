use Rattle.pm_write.proofs.Placing.{reaches_hole}
use Rattle.pm_write.proofs.written.Written.place.Goals as goal

pub returns-in-Some-earlier_line-clause-line : goal.returns-in-Some-earlier_line-clause-line
returns-in-Some-earlier_line-clause-line c = λ preds lines h there recalled sound cites. reaches_hole preds c.args.self.now lines c.args.earlier.now c.args.recalled.now c.in-Some-earlier_line.number _ _ c.entail.ensures c.in-Some-earlier_line.ensures h there recalled
