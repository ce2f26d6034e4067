use Rattle.std.proofs.Common.{refl}
use Rattle.pm_proof.specs.Trees.{conclusion}
use Rattle.pm_write.proofs.Placing.{reaches_recalled, recalls_rule}
use Rattle.pm_write.proofs.written.Written.line.Goals as goal

pub returns-in-Some-clause-line : goal.returns-in-Some-clause-line
returns-in-Some-clause-line c = λ preds lines h recalled sound cites. reaches_recalled preds c.args.self.now lines c.args.recalled.now c.in-Some.number c.entail-entail.result.now (conclusion c.args.part.now) c.entail-entail.ensures c.in-Some.ensures h recalled

pub returns-clause-line : goal.returns-clause-line
returns-clause-line c = recalls_rule c.args.self.now c.rule.new.self c.args.part.now c.args.rule.now c.args.cited.first c.args.cited.second c.args.recalled.now c.place_of-at.result c.in_ok-number.number (record { entail = c.entail-entail.result; number = c.in_ok-number.number }) c.entail-entail.result.now c.requires.rule c.entail-entail.ensures c.in_ok-number.ensures.line c.in_ok-number.ensures.rule c.in_ok-number.ensures.entail refl refl
