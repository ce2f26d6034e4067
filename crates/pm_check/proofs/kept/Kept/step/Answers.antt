use Rattle.std.proofs.Common.{rules}
use Rattle.pm_check.proofs.Keeping.{line_fit, step_refused}
use Rattle.pm_check.proofs.kept.Kept.step.Goals as goal

pub rule_ok-requires-clause-conclusion : goal.rule_ok-requires-clause-conclusion
rule_ok-requires-clause-conclusion c = line_fit c.args.self.now.preds _ c.args.rule c.args.first c.args.second c.args.entail c.requires.fits

pub returns-in-Err : goal.returns-in-Err
returns-in-Err c = step_refused c.args.self.now _ c.args.rule c.args.first c.args.second c.args.entail _ _ c.len-before.result c.in-Err.unmet c.premise-first.ensures c.premise-second.ensures c.in-Err.ensures.decides (search rules)
