use Rattle.pm_write.proofs.Wording.{five, step_text}
use Rattle.pm_write.proofs.lines.put_step.Goals as goal

pub returns : goal.returns
returns c = five _ _ _ _ _ _ _ _ _ _ _ _ _ c.in_ok-put_head.ensures c.in_ok-put_cited.ensures c.in_ok-put_cited-2.ensures c.in_ok-put_arguments.ensures c.put_sides.ensures (step_text _ _ _ _ _)
