use Rattle.pm_apply.proofs.Citations.{cite_done}
use Rattle.pm_apply.proofs.citing.cite.Goals as goal

pub returns : goal.returns
returns c = cite_done c.args.work.now c.in_ok-new.new c.args.f.now c.in_ok-proof.proof c.within.result c.in_ok-new.ensures c.in_ok-proof.ensures c.within.ensures
