use Rattle.std.proofs.Common.{◌∙◌, ap}
use Rattle.pm_goal.specs.declared.goal.Goal.{Goal}
use Rattle.pm_table.specs.Limits.{resting}
use Rattle.pm_table.specs.Basic.{for}
use Rattle.pm_loeb.proofs.Exchanged.{concluded}
use Rattle.pm_loeb.proofs.finishing.conclude.Goals as goal

pub returns : goal.returns
returns c =
    concluded c.args.work.now c.at_rest-made.result c.args.entry.formula c.args.entry.proof c.in_ok-wanted.wanted c.in_ok-proof.proof c.finish_one_over.result c.requires.nothing
    (c.at_rest-made.ensures ∙ ap (λ (g : Goal). resting (for c.args.entry.formula g)) c.in_ok-goal.ensures) c.in_ok-wanted.ensures c.in_ok-proof.ensures.proves c.finish_one_over.ensures
