use Rattle.std.proofs.Common.{ap, ◌∙◌}
use Rattle.pm_table.specs.Limits.{resting}
use Rattle.pm_basic.proofs.Ending.{concluded}
use Rattle.pm_basic.proofs.concluding.conclude.Goals as goal

pub returns : goal.returns
returns c s =
    concluded s c.args.work.now c.at_rest-new.result c.args.entry.formula c.args.entry.proof c.in_ok-wanted.wanted c.in_ok-proof.proof c.finish_one.result
    c.requires.nothing (c.at_rest-new.ensures ∙ ap resting c.in_ok-goal.ensures) c.requires.proof c.in_ok-wanted.ensures c.in_ok-proof.ensures.proves c.finish_one.ensures
