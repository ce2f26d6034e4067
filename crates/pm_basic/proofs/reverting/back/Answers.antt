use Rattle.pm_basic.proofs.Reverted.{back_done}
use Rattle.pm_basic.proofs.reverting.back.Goals as goal

pub returns : goal.returns
returns c = back_done c.args.new.now c.len-vars.result c.in_ok-left.left c.args.part.now c.args.concl.now c.in_ok-proof.proof c.len-vars.ensures c.in_ok-left.ensures c.requires.concl c.in_ok-proof.ensures
