use Rattle.std.proofs.Common.{rules}
use Rattle.pm_check.proofs.Keeping.{has_variables, lacks_truth, name_taken, qed_kept}
use Rattle.pm_check.proofs.kept.Kept.qed.Goals as goal

pub returns-then-line-ne0 : goal.returns-then-line-ne0
returns-then-line-ne0 c = has_variables c.args.self.now _ c.args.name c.args.cited c.deref.result.now c.line_of-line.result.now _ c.deref.ensures.value c.line_of-line.ensures c.qed_refused.ensures c.if-line-ne0.true

pub returns-then-not-is_truth : goal.returns-then-not-is_truth
returns-then-not-is_truth c = lacks_truth c.args.self.now _ c.args.name c.args.cited c.deref.result.now c.line_of-line.result.now _ c.deref.ensures.value c.line_of-line.ensures c.qed_refused-then-not-is_truth.ensures c.if-line-ne0.false (search rules)

pub returns-then-not-branch : goal.returns-then-not-branch
returns-then-not-branch c = name_taken c.args.self.now _ c.args.name c.args.cited c.deref.result.now c.line_of-line.result.now _ c.deref.ensures.value c.line_of-line.ensures c.qed_refused-then-not-branch.ensures c.if-line-ne0.false (search rules) (search rules)

pub returns : goal.returns
returns c = qed_kept c.args.self.now _ c.args.name c.args.cited c.deref.result.now c.line_of-line.result.now (record { name = c.args.name; formula = c.in_ok-formula.formula }) _ c.deref.ensures.value c.line_of-line.ensures c.if-line-ne0.false (search rules) (search rules) (search rules) (search rules) (search rules) (search rules) (search rules)
