use Rattle.std.proofs.Common.{sym, ◌∙◌}
use Rattle.pm_cutter.specs.Machine.{mode_of}
use Rattle.pm_cutter.proofs.Ending.{skips, in_comment, first_is}
use Rattle.pm_cutter.proofs.finish.left_behind.Goals as goal

pub returns-then-left-gt0 : goal.returns-then-left-gt0
returns-then-left-gt0 c = skips (mode_of c.args.mode) c.args.left c.args.bytes.now c.if-left-gt0.true

pub returns-then-is_commented : goal.returns-then-is_commented
returns-then-is_commented c = in_comment (mode_of c.args.mode) c.args.left c.args.bytes.now c.if-left-gt0.false (sym c.is_commented.ensures ∙ c.if-is_commented.true)

pub returns-in-Some : goal.returns-in-Some
returns-in-Some c = first_is (mode_of c.args.mode) c.args.left c.args.bytes.now _ c.if-left-gt0.false (sym c.is_commented.ensures ∙ c.if-is_commented.false) (sym c.in-Some.ensures.value)

pub returns-in-None : goal.returns-in-None
returns-in-None c = first_is (mode_of c.args.mode) c.args.left c.args.bytes.now _ c.if-left-gt0.false (sym c.is_commented.ensures ∙ c.if-is_commented.false) (sym c.in-None.ensures.value)
