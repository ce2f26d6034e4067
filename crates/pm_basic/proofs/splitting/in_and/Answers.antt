use Rattle.pm_basic.proofs.Splits.{and_pair}
use Rattle.pm_basic.proofs.splitting.in_and.Goals as goal

pub returns : goal.returns
returns c = and_pair c.args.vars c.args.a.now c.args.b.now c.args.whole.now c.in_ok-first.first c.in_ok-second.second c.in_ok-proof.proof c.requires c.in_ok-first.ensures c.in_ok-second.ensures c.in_ok-proof.ensures
