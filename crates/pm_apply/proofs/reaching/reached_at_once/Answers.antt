use Rattle.pm_apply.proofs.Onward.{at_once_done}
use Rattle.pm_apply.proofs.reaching.reached_at_once.Goals as goal

pub returns : goal.returns
returns c = at_once_done c.args.vars c.args.whole.now c.args.shared.now c.args.r.now c.new-premises.result c.in_ok-proof.proof c.new-premises.ensures c.in_ok-proof.ensures
