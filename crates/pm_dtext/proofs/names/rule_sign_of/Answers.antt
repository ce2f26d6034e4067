use Rattle.std.proofs.Common.{sym, ◌∙◌}
use Rattle.pm_dtext.proofs.Named.{found, passed}
use Rattle.pm_dtext.proofs.names.rule_sign_of.Goals as goal

pub returns-then-is_text : goal.returns-then-is_text
returns-then-is_text c = found c.args.word.now c.rule_name.result.now c.sign_numbered.result c.loop-number.number c.loop-number.invariant c.loop-number-test.true c.rule_name.ensures (sym c.is_text.ensures ∙ c.if-is_text.true) c.sign_numbered.ensures

pub loop-number-preserved : goal.loop-number-preserved
loop-number-preserved c = passed c.args.word.now c.rule_name.result.now c.loop-number.number c.loop-number.invariant c.loop-number-test.true c.rule_name.ensures (sym c.is_text.ensures ∙ c.if-is_text.false)
