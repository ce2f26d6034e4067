use Rattle.pm_print.proofs.LineCases.{head_joined}
use Rattle.pm_print.proofs.lines.add_head.Goals as goal

pub returns : goal.returns
returns c = head_joined _ _ _ _ _ _ _ _ c.in_ok-add.ensures c.in_ok-add-2.ensures c.bytes.ensures c.add-3.ensures
